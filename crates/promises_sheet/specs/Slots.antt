-- Empty card slots (§1.3): what a read there gives and what becomes of a store, that no call is refused for them, and what comes of code in one.
use Rattle.std.specs.Prelude.{Bool, true, false, List, [], ◌∷◌, ◌⊎◌, ◌↔◌, ◌≡◌, ℕ, ◌+◌, ◌*◌, ◌%◌, ◌≤◌, length}
use Rattle.ground_rules.specs.Buffers.{Buffers, lent_at, EmptySlot, byte_at, store_byte}
use Rattle.ground_rules.specs.Places.{Place}
use Rattle.ground_rules.specs.Values.{word_at}
use Rattle.ground_rules.specs.declared.Channel.{Channel}
use Rattle.ground_rules.specs.declared.State.{State}
use Rattle.ground_rules.specs.Psw.{transferring}
use Rattle.ground_rules.specs.States.{channel_of, is_second}
use Rattle.attention_rules.specs.Attention.{order_to, attention_of}
use Rattle.attention_rules.specs.Conditions.{mode_to}
use Rattle.attention_rules.specs.Touched.{touched_by_order}
use Rattle.turn_rules.specs.Choosing.{choice_of}
use Rattle.turn_rules.specs.Step.{step_of}
use Rattle.turn_rules.specs.Touched.{reached_in}
use Rattle.run_rules.specs.Run.{run_of}
use Rattle.promises.specs.Calls.{HasTurn}
use Rattle.promises_sheet.specs.SheetOperands.{code_byte}

-- a byte of I/O space
pub record SlotIs (m : Buffers) (a : ℕ) : Type 0 where
  -- it is an empty slot exactly where its address, in 16 bits, is not below the lent length
  pub empty : EmptySlot m a ↔ (length m.io ≤ a % 65536)
  -- an empty slot reads FFh
  pub reads : EmptySlot m a → byte_at m true a ≡ 0xFF
  -- a store there vanishes: both memories are what they were
  pub vanishes : EmptySlot m a → (v : ℕ) → store_byte m true a v ≡ m
  -- a byte that is lent keeps what is stored
  pub keeps : lent_at m true a ≡ true → (v : ℕ) → byte_at (store_byte m true a v) true a ≡ v
  -- a word over the edge has its own low byte and FFh
  pub edge : EmptySlot m (a + 1) → word_at m true a ≡ byte_at m true a + 256 * 0xFF
  -- a word at the top of the space has its high byte at 0
  pub top : a % 65536 ≡ 65535 → word_at m true a ≡ byte_at m true a + 256 * byte_at m true 0

-- after a call each empty slot is one still, and reads FFh as it did
pub record SlotsStay (m m' : Buffers) : Type 0 where
  pub empty : (a : ℕ) → EmptySlot m a → EmptySlot m' a
  pub reads : (a : ℕ) → EmptySlot m a → byte_at m' true a ≡ 0xFF

-- of some places each that is of system space is lent
abbrev pub SystemLent : Buffers → List Place → Type 0
SystemLent m [] = Unit {0}
SystemLent m (p ∷ ps) = (p.tag ≡ false → lent_at m false p.address ≡ true) × SystemLent m ps

-- a step call is a channel's turn to execute, and TP is in I/O space
pub record RunsInIo (second : Bool) (s : State) (m : Buffers) (lines : ℕ) : Type 0 where
  pub turn : HasTurn second s m lines
  pub program : transferring (channel_of s second).psw ≡ false
  pub space : (channel_of s second).tp.tag ≡ true

-- the promises about empty slots
pub record EmptySlots : Type 0 where
  pub byte : (m : Buffers) (a : ℕ) → SlotIs m a
  -- no call fills one
  pub attention : (s : State) (m : Buffers) (channel : ℕ) → SlotsStay m (attention_of s m channel).memory
  pub step : (s : State) (m : Buffers) (lines : ℕ) → SlotsStay m (step_of s m lines).memory
  pub run : (m : Buffers) (cp channel lines limit : ℕ) → SlotsStay m (run_of m cp channel lines limit).memory
  -- a call of which every system byte is lent, up to where it stops, is not refused by 2, whatever I/O memory is lent, of length 0 too
  pub attended : (s : State) (m : Buffers) (channel : ℕ) → SystemLent m (touched_by_order (order_to s m (is_second channel)) (mode_to s channel))
      → ¬ ((attention_of s m channel).number ≡ 2)
  pub stepped : (s : State) (m : Buffers) (lines : ℕ) → SystemLent m (reached_in (choice_of s lines) s m) → ¬ ((step_of s m lines).number ≡ 2)
  -- a first pair with either byte in an empty slot is refused by 3
  pub pair : (second : Bool) (s : State) (m : Buffers) (lines : ℕ) → RunsInIo second s m lines
      → EmptySlot m (channel_of s second).tp.address ⊎ EmptySlot m ((channel_of s second).tp.address + 1) → (step_of s m lines).number ≡ 3
  -- later bytes there read FFh
  pub later : (m : Buffers) (c : Channel) (k : ℕ) → c.tp.tag ≡ true → EmptySlot m (c.tp.address + k) → code_byte m c k ≡ 0xFF
