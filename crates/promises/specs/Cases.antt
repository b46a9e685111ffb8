-- What the rows of the table of cases say: an instruction in its step, a pointer in its bytes, a transfer by its sides, and channels that take turns.
use Rattle.std.specs.Prelude.{Bool, true, false, List, [], ◌∷◌, ◌≡◌, ℕ, ◌+◌, ◌%◌, ◌<◌, length, get_or}
use Rattle.ground_rules.specs.Stored.{stored_low, stored_middle, stored_high}
use Rattle.ground_rules.specs.declared.Pointer.{Pointer}
use Rattle.ground_rules.specs.Buffers.{Buffers, buffers, byte_at}
use Rattle.ground_rules.specs.Values.{doubleword_at, store_pointer}
use Rattle.ground_rules.specs.declared.Channel.{Channel}
use Rattle.ground_rules.specs.declared.State.{State}
use Rattle.ground_rules.specs.Outcomes.{Outcome}
use Rattle.ground_rules.specs.Psw.{transferring, priority}
use Rattle.ground_rules.specs.States.{fresh_state, channel_of}
use Rattle.attention_rules.specs.Attention.{attention_of}
use Rattle.transfer_rules.specs.Sides.{source, destination}
use Rattle.turn_rules.specs.Ranks.{RankThree}
use Rattle.turn_rules.specs.Step.{step_of}
use Rattle.promises.specs.Calls.{HasTurn, EndsAtCall}
use Rattle.block_rules.specs.Premises.{from, into, Lent, Copy}

-- ---- bytes, instructions and pointers

-- bytes stand in memory from a place on, and are lent
pub record Stand (m : Buffers) (p : Pointer) (bytes : List ℕ) : Type 0 where
  pub lent : Lent m p (length bytes)
  pub read : (i : ℕ) → i < length bytes → byte_at m p.tag (p.address + i) ≡ get_or bytes i 0

-- a step call is a channel's turn to execute, and these bytes stand at its TP
pub record Executes (second : Bool) (s : State) (m : Buffers) (lines : ℕ) (code : List ℕ) : Type 0 where
  pub turn : HasTurn second s m lines
  pub program : transferring (channel_of s second).psw ≡ false
  pub there : Stand m (channel_of s second).tp code

-- an instruction does something to its channel, before and after: in every such step call, of either channel of any state, which is done
abbrev pub Does : List ℕ → (Channel → Channel → Type 0) → Type 0
Does code change =
    (second : Bool) (s : State) (m : Buffers) (lines : ℕ) → Executes second s m lines code
    → ((step_of s m lines).number ≡ 0) × change (channel_of s second) (channel_of (step_of s m lines).state second)

-- the three bytes of a pointer as numbers
abbrev pub stored_form : Pointer → List ℕ
stored_form p = stored_low p.address ∷ stored_middle p.address ∷ stored_high p.address p.tag ∷ []

-- a pointer is stored as these bytes, as numbers and in memory at any place that is lent
abbrev pub IsStored : Pointer → List ℕ → Type 0
IsStored p bytes = (stored_form p ≡ bytes) × ((m : Buffers) (at : Pointer) → Lent m at 3 → Stand (store_pointer m at.tag at.address p) at bytes)

-- these bytes, offset then segment, give an address wherever they stand
abbrev pub Gives : List ℕ → ℕ → Type 0
Gives bytes address = (m : Buffers) (at : Pointer) → Stand m at bytes → doubleword_at m at.tag at.address ≡ address

-- ---- transfers

-- an address is even
abbrev pub Even : ℕ → Type 0
Even a = a % 2 ≡ 0

-- an address is odd
abbrev pub Odd : ℕ → Type 0
Odd a = a % 2 ≡ 1

-- both sides are 8 bits wide
abbrev pub Both8 : Channel → Type 0
Both8 c = ((source c).wide ≡ false) × ((destination c).wide ≡ false)

-- both are 16
abbrev pub Both16 : Channel → Type 0
Both16 c = ((source c).wide ≡ true) × ((destination c).wide ≡ true)

-- both are 16 and begin at even addresses
abbrev pub Both16Even : Channel → Type 0
Both16Even c = Both16 c × Even (from c).address × Even (into c).address

-- both are 16 and begin at odd addresses
abbrev pub Both16Odd : Channel → Type 0
Both16Odd c = Both16 c × Odd (from c).address × Odd (into c).address

-- the source is 16 and begins at an odd address, the destination is 8
abbrev pub From16OddInto8 : Channel → Type 0
From16OddInto8 c = ((source c).wide ≡ true) × ((destination c).wide ≡ false) × Odd (from c).address

-- under the conditions of demand 3 a transfer with such sides and this first count in BC ends at this one of the channel's transfer steps, on calls in
-- a row, for either channel of any state
abbrev pub Takes : (Channel → Type 0) → ℕ → ℕ → Type 0
Takes sides count steps =
    (second : Bool) (s : State) (m : Buffers) (n : ℕ) → Copy n (channel_of s second) m → (channel_of s second).bc ≡ count → sides (channel_of s second)
    → EndsAtCall second n s m steps

-- ---- turns

-- a state made with some CP, and given nothing but attention since
pub data Fresh : State → Type 0 where
  made : (cp : ℕ) → Fresh (fresh_state cp)
  attended : {s : State} → Fresh s → (m : Buffers) (channel : ℕ) → Fresh (attention_of s m channel).state

-- both channels run programs that are not chained, with equal priority
pub record Programs (s : State) : Type 0 where
  pub unchained : (second : Bool) → RankThree (channel_of s second)
  pub equal : priority (channel_of s false).psw ≡ priority (channel_of s true).psw

-- the channels of done steps in a row, with such programs before each and any lines
pub data Turns : State → Buffers → List ℕ → Type 0 where
  none : {s : State} {m : Buffers} → Turns s m []
  turn : {s : State} {m : Buffers} {rest : List ℕ} → Programs s → (lines : ℕ) → (step_of s m lines).number ≡ 0
      → Turns (step_of s m lines).state (step_of s m lines).memory rest → Turns s m ((step_of s m lines).channel ∷ rest)

-- two blocks that start both channels (CCW 03h), PB at 10h and 14h, and two programs of NOPs, at 18h and 1Ch
abbrev pub nops : Buffers
nops =
    buffers
    (0x03 ∷ 0 ∷ 0x10 ∷ 0 ∷ 0 ∷ 0 ∷ 0 ∷ 0 ∷ 0x03 ∷ 0 ∷ 0x14 ∷ 0 ∷ 0 ∷ 0 ∷ 0 ∷ 0
    ∷ 0x18 ∷ 0 ∷ 0 ∷ 0 ∷ 0x1C ∷ 0 ∷ 0 ∷ 0 ∷ 0 ∷ 0 ∷ 0 ∷ 0 ∷ 0 ∷ 0 ∷ 0 ∷ 0 ∷ [])
    []

-- a fresh state after an attention to each channel
abbrev pub started_both : Outcome
started_both =
    let o = attention_of (fresh_state 0) nops 1 in
    attention_of o.state o.memory 2
