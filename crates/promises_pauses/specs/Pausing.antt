-- Demand 3 with pauses: calls in a row, among which the channel may be suspended and resumed between its transfer steps.
use mathlib.Core.{Bool.Bool, Bool.true, Bool.false, List.List, List.[], List.◌∷◌, List.◌++◌, Path.◌≡◌}
use Rattle.std.specs.Prelude.{ℕ, suc, ◌+◌, ◌<◌, length}
use Rattle.ground_rules.specs.{declared.Pointer.Pointer, declared.Channel.Channel, declared.Mode.TheVariants.Suspended, declared.State.State, Psw.transferring}
use Rattle.ground_rules.specs.{Bits.field_of, Bits.bit_of, Buffers.Buffers, Buffers.space_of, Buffers.byte_at, Places.Place, Places.span, Places.ApartFrom}
use Rattle.ground_rules.specs.{Psw.program_running, Psw.load_limit, Psw.priority, States.channel_of, States.channel_number, States.block_of, States.busy_in}
use Rattle.attention_rules.specs.declared.Command.TheVariants.{Suspend, Resume}
use Rattle.attention_rules.specs.{declared.Command.Command, Attention.order_to, Attention.attention_of}
use Rattle.turn_rules.specs.Step.{step_of}
use Rattle.block_rules.specs.{Premises.from, Premises.into, Rows.Untouched, Totals.moved_after, Stages.midway, Stages.RangesHeld, Stages.Going, Stages.Ended}
use Rattle.promises.specs.Calls.{HasTurn, Moves}
use Rattle.promises_blocks.specs.Joined.{Comes}
use Rattle.promises_sheet.specs.SheetAttention.{outcome_to, channel_after}

-- an accepted attention to this channel: at this call its CCW in memory holds this command and ICF 00, and its bits 5 and 7 are what PSW's are at this call
pub record Quietly (second : Bool) (command : Command) (s : State) (m : Buffers) : Type 0 where
  pub accepted : (outcome_to s m second).number ≡ 0
  pub commands : (order_to s m second).command ≡ command
  pub interrupts : field_of (order_to s m second).ccw 3 2 ≡ 0
  pub limit : bit_of (order_to s m second).ccw 5 ≡ load_limit (channel_of s second).psw
  pub ranked : bit_of (order_to s m second).ccw 7 ≡ priority (channel_of s second).psw

-- PB's first four bytes, at PP
abbrev pub block_bytes : Bool → State → List Place
block_bytes second s = span false (channel_of s second).pp 4

-- BUSY
abbrev pub busy_byte : Bool → State → List Place
busy_byte second s = span false (busy_in (block_of s second)) 1

-- no byte of a range of n is one of these
abbrev pub Clear : List Place → Pointer → ℕ → Type 0
Clear places p n = (i : ℕ) → i < n → ApartFrom places p.tag (p.address + i)

-- PB's first four bytes, at an address, are in m' as they are in m
abbrev pub BlockKept : ℕ → Buffers → Buffers → Type 0
BlockKept pp m m' = (i : ℕ) → i < 4 → byte_at m' false (pp + i) ≡ byte_at m false (pp + i)

-- a call changes no byte but these, and no length
pub record PauseStores (places : List Place) (m m' : Buffers) : Type 0 where
  pub others : (u : Bool) (a : ℕ) → ApartFrom places u a → byte_at m' u a ≡ byte_at m u a
  pub lengths : (u : Bool) → length (space_of m' u) ≡ length (space_of m u)

module _ (second : Bool) (n : ℕ) (s₀ : State) where
  abbrev c₀ : Channel
  c₀ = channel_of s₀ second

  -- BUSY is none of PB's first four bytes, and neither these nor BUSY lie in a range. Said once, of the start: PP and CP stay
  pub record PauseApart : Type 0 where
    pub busy : ApartFrom (block_bytes second s₀) false (busy_in (block_of s₀ second))
    pub source : Clear (block_bytes second s₀ ++ busy_byte second s₀) (from c₀) n
    pub destination : Clear (block_bytes second s₀ ++ busy_byte second s₀) (into c₀) n

  -- what all but the channel's own steps and pauses leave alone: both ranges, and while it is suspended PB's first four bytes too
  pub record Spared (paused : Bool) (m m' : Buffers) : Type 0 where
    pub ranges : Untouched c₀ n m m'
    pub block : paused ≡ true → BlockKept c₀.pp m m'

  module _ (m₀ : Buffers) where
    -- what comes of a state and a memory by calls in a row, k of which are transfer steps of the channel, now suspended or not: as in demand 3, and besides
    -- a suspend, where XF is set, and a resume, where it is suspended; they ask nothing of ranges. A refused attention to it is the host's, no byte changed
    pub data PausedCalls : ℕ → Bool → State → Buffers → Type 0 where
      begin : PausedCalls 0 false s₀ m₀
      transfer : {k : ℕ} {s : State} {m : Buffers} → PausedCalls k false s m → (lines : ℕ) → HasTurn second s m lines
          → transferring (channel_of s second).psw ≡ true → PausedCalls (suc k) false (step_of s m lines).state (step_of s m lines).memory
      step : {k : ℕ} {paused : Bool} {s : State} {m : Buffers} → PausedCalls k paused s m → (lines : ℕ) → (HasTurn second s m lines → ⊥)
          → Spared paused m (step_of s m lines).memory → PausedCalls k paused (step_of s m lines).state (step_of s m lines).memory
      attention : {k : ℕ} {paused : Bool} {s : State} {m : Buffers} → PausedCalls k paused s m → (channel : ℕ) → (channel ≡ channel_number second → ⊥)
          → Spared paused m (attention_of s m channel).memory → PausedCalls k paused (attention_of s m channel).state (attention_of s m channel).memory
      host : {k : ℕ} {paused : Bool} {s : State} {m : Buffers} {m' : Buffers} → PausedCalls k paused s m → Spared paused m m' → PausedCalls k paused s m'
      suspend : {k : ℕ} {s : State} {m : Buffers} → PausedCalls k false s m → transferring (channel_of s second).psw ≡ true → Quietly second Suspend s m
          → PausedCalls k true (outcome_to s m second).state (outcome_to s m second).memory
      resume : {k : ℕ} {s : State} {m : Buffers} → PausedCalls k true s m → Quietly second Resume s m
          → PausedCalls k false (outcome_to s m second).state (outcome_to s m second).memory

    -- the transfer ends at the k-th of the channel's transfer steps, and not before, whatever pauses come between
    pub record EndsPaused (k : ℕ) : Type 0 where
      -- not suspended: all is as in the undisturbed run, and each step call that is the channel's turn is its transfer step; at the k-th it has ended
      pub before : {j : ℕ} {s : State} {m : Buffers} → PausedCalls j false s m → j < k → Going n c₀ m₀ j (channel_of s second) m
      pub turns : {j : ℕ} {s : State} {m : Buffers} → PausedCalls j false s m → j < k → (lines : ℕ) → HasTurn second s m lines → Moves second n s₀ s m lines
      pub then : {s : State} {m : Buffers} → PausedCalls k false s m → Ended n c₀ m₀ (channel_of s second) m
      -- suspended: the transfer is short of its end, no step call is the channel's, and the bytes that have moved have, and no others
      pub short : {j : ℕ} {s : State} {m : Buffers} → PausedCalls j true s m → j < k
      pub waits : {j : ℕ} {s : State} {m : Buffers} → PausedCalls j true s m → ((channel_of s second).mode ≡ Suspended) × ((lines : ℕ) → HasTurn second s m lines → ⊥)
      pub bytes : {j : ℕ} {s : State} {m : Buffers} → PausedCalls j true s m → RangesHeld (from c₀) (into c₀) n m₀ (moved_after c₀ n j) m
      -- resumed: the channel is, whole, the one of the undisturbed run after that many steps
      pub back : {j : ℕ} {s : State} {m : Buffers} → PausedCalls j true s m → Quietly second Resume s m
          → channel_after s m second ≡ midway c₀ n (moved_after c₀ n j)
      -- suspend changes no byte but PB's first four and BUSY, resume none but BUSY
      pub suspends : {j : ℕ} {s : State} {m : Buffers} → PausedCalls j false s m → Quietly second Suspend s m
          → PauseStores (block_bytes second s₀ ++ busy_byte second s₀) m (outcome_to s m second).memory
      pub resumes : {j : ℕ} {s : State} {m : Buffers} → PausedCalls j true s m → Quietly second Resume s m
          → PauseStores (busy_byte second s₀) m (outcome_to s m second).memory

    -- after how many of the channel's transfer steps each pause of a row began, the last first
    unfoldable pub pauses_of : {k : ℕ} {paused : Bool} {s : State} {m : Buffers} → PausedCalls k paused s m → List ℕ
    pauses_of begin = []
    pauses_of (transfer r lines t x) = pauses_of r
    pauses_of (step r lines ne w) = pauses_of r
    pauses_of (attention r channel ne w) = pauses_of r
    pauses_of (host r w) = pauses_of r
    pauses_of (suspend {k = k} r x q) = k ∷ pauses_of r
    pauses_of (resume r q) = pauses_of r

  -- two rows from one start have come to their ends: they count the same transfer steps, and leave the same channel and the same destination
  pub record SameEnd (k j : ℕ) (s s' : State) (m m' : Buffers) : Type 0 where
    pub steps : k ≡ j
    pub channel : channel_of s second ≡ channel_of s' second
    pub destination : (i : ℕ) → i < n → byte_at m (into c₀).tag ((into c₀).address + i) ≡ byte_at m' (into c₀).tag ((into c₀).address + i)

-- a row with two pauses that a fresh state, a start attention and a program begin, and that ends
pub record PausedMet (image : Buffers) : Type 0 where
  -- the attention is accepted, six instructions are done, XFER among them, and every premise is met, of five bytes by words from one odd address to another
  pub state : State
  pub memory : Buffers
  pub comes : Comes image 0 false 0 65535 5 6 state memory
  pub program : program_running (channel_of state false).psw ≡ true
  pub apart : PauseApart false 5 state
  -- a pause before the first step, and one when three bytes have moved
  pub last : State
  pub last_memory : Buffers
  pub row : PausedCalls false 5 state memory 3 false last last_memory
  pub pauses : pauses_of false 5 state memory row ≡ 2 ∷ 0 ∷ []
  pub moved : moved_after (channel_of state false) 5 2 ≡ 3
  -- the end
  pub ended : Ended 5 (channel_of state false) memory (channel_of last false) last_memory
