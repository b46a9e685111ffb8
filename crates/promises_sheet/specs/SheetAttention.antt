-- The sheet of attention (§4): what each command leaves of its channel and of memory, by fields and numbers.
use Rattle.std.specs.Prelude.{Bool, true, false, [], ◌∷◌, ◌++◌, ◌≡◌, ℕ, ◌+◌, ◌/◌, ◌%◌, ◌<◌, eqb, get_or, Option, None}
use Rattle.ground_rules.specs.Choice.{pick}
use Rattle.ground_rules.specs.Buffers.{Buffers, byte_at}
use Rattle.ground_rules.specs.Places.{Apart}
use Rattle.ground_rules.specs.Values.{pointer}
use Rattle.ground_rules.specs.declared.Pointer.{Pointer}
use Rattle.ground_rules.specs.States.{channel_of, channel_number}
use Rattle.ground_rules.specs.declared.Channel.{Channel}
use Rattle.ground_rules.specs.declared.Mode.{Mode}
use Rattle.ground_rules.specs.declared.Mode.TheVariants.{Idle, Running, Suspended}
use Rattle.ground_rules.specs.declared.State.{State}
use Rattle.ground_rules.specs.Outcomes.{Outcome}
use Rattle.attention_rules.specs.Attention.{attention_of}
use Rattle.promises.specs.SheetWords.{bit, word_in, far_in, stored_in, stored_tag_in, form_of}

-- a channel's block begins at CP, that of channel 2 at CP + 8 (§4.1)
abbrev pub block_in : State → Bool → ℕ
block_in s second = pick second (s.cp + 8) s.cp

-- CCW is its first byte
abbrev pub ccw_at : State → Buffers → Bool → ℕ
ccw_at s m second = byte_at m false (block_in s second)

-- BUSY its second: in numbers of the sheet's own, so that it holds `busy_in` to them
abbrev pub busy_place : State → Bool → ℕ
busy_place s second = block_in s second + 1

-- and PB is where its bytes 2 to 5 point
abbrev pub pb_at : State → Buffers → Bool → ℕ
pb_at s m second = far_in m false (block_in s second + 2)

-- an attention to a channel, what it leaves, and the channel after it
abbrev pub outcome_to : State → Buffers → Bool → Outcome
outcome_to s m second = attention_of s m (channel_number second)

abbrev pub channel_after : State → Buffers → Bool → Channel
channel_after s m second = channel_of (outcome_to s m second).state second

-- it is done, and bits 2-0 of CCW are this command
pub record Attends (second : Bool) (s : State) (m : Buffers) (command : ℕ) : Type 0 where
  pub done : (outcome_to s m second).number ≡ 0
  pub code : ccw_at s m second % 8 ≡ command

-- one of four by ICF, bits 4-3 of CCW: 01, 10, 11, 00
abbrev pub by_icf : ℕ → ℕ → ℕ → ℕ → ℕ → ℕ
by_icf ccw one two three none = pick (eqb (ccw / 8 % 4) 1) one (pick (eqb (ccw / 8 % 4) 2) two (pick (eqb (ccw / 8 % 4) 3) three none))

-- PSW after a command, bit by bit: TB and XF as the command made them, bits 5 and 7 of CCW, and ICF (§4.2, §4.3); the others as they were in `psw`
pub record StatusLeft (ccw psw tb xf after : ℕ) : Type 0 where
  pub destination : bit after 0 ≡ bit psw 0
  pub source : bit after 1 ≡ bit psw 1
  pub running : bit after 2 ≡ tb
  pub control : bit after 3 ≡ by_icf ccw (bit psw 3) 1 0 (bit psw 3)
  pub service : bit after 4 ≡ by_icf ccw 0 (bit psw 4) 0 (bit psw 4)
  pub load : bit after 5 ≡ bit ccw 5
  pub transfer : bit after 6 ≡ xf
  pub priority : bit after 7 ≡ bit ccw 7

-- the channel after a command: TP with its tag, PP, PSW, mode, mark and the held byte
pub record ControlLeft (ccw : ℕ) (after : Channel) (task : Pointer) (parameters psw tb xf : ℕ) (state : Mode) (armed : Bool) (byte : Option ℕ) : Type 0 where
  pub tp : after.tp ≡ task
  pub pp : after.pp ≡ parameters
  pub status : StatusLeft ccw psw tb xf after.psw
  pub mode : after.mode ≡ state
  pub mark : after.armed ≡ armed
  pub held : after.held ≡ byte

-- memory after a command that stores BUSY alone
pub record BusyLeft (s : State) (second : Bool) (value : ℕ) (m m' : Buffers) : Type 0 where
  pub busy : byte_at m' false (busy_place s second) ≡ value
  pub others : (tag : Bool) (a : ℕ) → Apart false (busy_place s second) tag a → byte_at m' tag a ≡ byte_at m tag a

-- memory after suspend (§4.6): TP in its stored form and PSW as they were, at PP; then BUSY is 0, also where it is one of those four
pub record SavedLeft (s : State) (second : Bool) (m m' : Buffers) : Type 0 where
  pub busy : byte_at m' false (busy_place s second) ≡ 0
  pub saved : (i : ℕ) → i < 4 → Apart false (busy_place s second) false ((channel_of s second).pp + i)
      → byte_at m' false ((channel_of s second).pp + i)
      ≡ get_or (form_of (channel_of s second).tp.address (channel_of s second).tp.tag ++ ((channel_of s second).psw ∷ [])) i 0
  pub others : (tag : Bool) (a : ℕ) → Apart false (busy_place s second) tag a → ((i : ℕ) → i < 4 → Apart false ((channel_of s second).pp + i) tag a)
      → byte_at m' tag a ≡ byte_at m tag a

module _ (second : Bool) (s : State) (m : Buffers) where
  -- the channel before
  abbrev was : Channel
  was = channel_of s second

  -- a command makes its channel so
  abbrev pub Becomes : Pointer → ℕ → ℕ → ℕ → ℕ → Mode → Bool → Option ℕ → Type 0
  Becomes tp pp psw tb xf mode armed byte = ControlLeft (ccw_at s m second) (channel_after s m second) tp pp psw tb xf mode armed byte

  -- it stores BUSY alone
  abbrev pub Marks : ℕ → Type 0
  Marks busy = BusyLeft s second busy m (outcome_to s m second).memory

  -- a done attention to a channel
  pub record AttentionSheet : Type 0 where
    -- 000: PSW alone (§4.4)
    pub update : Attends second s m 0
        → Becomes was.tp was.pp was.psw (bit was.psw 2) (bit was.psw 6) was.mode was.armed was.held
    pub update_memory : Attends second s m 0 → (outcome_to s m second).memory ≡ m
    -- 001: TP is PB's first word, with tag 1, and nothing is held (§4.5)
    pub start_local : Attends second s m 1
        → Becomes (pointer (word_in m false (pb_at s m second)) true) (pb_at s m second) was.psw 1 0 Running false None
    pub start_local_memory : Attends second s m 1 → Marks 0xFF
    -- 011: TP is PB's first two words as a doubleword pointer, with tag 0
    pub start_system : Attends second s m 3
        → Becomes (pointer (far_in m false (pb_at s m second)) false) (pb_at s m second) was.psw 1 0 Running false None
    pub start_system_memory : Attends second s m 3 → Marks 0xFF
    -- 110: TB and XF are 0, the mark and a held byte stay (§4.6)
    pub suspend : Attends second s m 6 → Becomes was.tp was.pp was.psw 0 0 Suspended was.armed was.held
    pub suspend_memory : Attends second s m 6 → SavedLeft s second m (outcome_to s m second).memory
    -- 101: TP, its tag and PSW from the four bytes at PP, then TB is 1; XF comes back, the mark and a held byte stay (§4.7)
    pub resume : Attends second s m 5
        → Becomes (pointer (stored_in m false was.pp) (stored_tag_in m false was.pp)) was.pp
        (byte_at m false (was.pp + 3)) 1 (bit (byte_at m false (was.pp + 3)) 6) Running was.armed was.held
    pub resume_memory : Attends second s m 5 → Marks 0xFF
    -- 111: idle, TB and XF 0, without the mark, nothing held (§4.8)
    pub halt : Attends second s m 7 → Becomes was.tp was.pp was.psw 0 0 Idle false None
    pub halt_memory : Attends second s m 7 → Marks 0
    -- 010 and 100 are none (§4.2)
    pub none : ¬ (Attends second s m 2) × ¬ (Attends second s m 4)
