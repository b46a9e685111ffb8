-- The sheet of the halves of a pair of transfer steps (§7.14): which bytes each touches, what it leaves, and both together.
use Rattle.std.specs.Prelude.{Bool, true, false, not, ◌&&◌, [], ◌∷◌, ◌≡◌, ℕ, ◌+◌, ◌%◌, eqb, Option, None, Some}
use Rattle.ground_rules.specs.Choice.{pick}
use Rattle.ground_rules.specs.Buffers.{Buffers, byte_at, store_byte}
use Rattle.ground_rules.specs.States.{channel_of, agree}
use Rattle.ground_rules.specs.declared.Channel.{Channel}
use Rattle.ground_rules.specs.declared.Mode.{Mode}
use Rattle.ground_rules.specs.declared.Pointer.{Pointer}
use Rattle.ground_rules.specs.declared.State.{State}
use Rattle.transfer_rules.specs.Steps.{touched_by_transfer}
use Rattle.turn_rules.specs.Step.{step_of}
use Rattle.turn_rules.specs.Touched.{step_count}
use Rattle.promises.specs.Calls.{HasTurn}
use Rattle.promises.specs.SheetWords.{bit, field, pointer_on}
use Rattle.promises_sheet.specs.SheetOperands.{ran_channel}
use Rattle.promises_sheet.specs.SheetTurns.{offset_in}
use Rattle.promises_sheet.specs.SheetTransfer.{place_at, from_pointer, into_pointer, from_second, into_second, first_byte, meets_in, max_of, fetches_twice, stores_twice, half_due, Transfers, TransferLeft}

-- nothing is held
abbrev pub is_none : Option ℕ → Bool
is_none None = true
is_none (Some byte) = false

-- ---- what a half leaves

-- no register but the held byte has changed
pub record OnlyHeld (before after : Channel) : Type 0 where
  pub ga : after.ga ≡ before.ga
  pub gb : after.gb ≡ before.gb
  pub gc : after.gc ≡ before.gc
  pub tp : after.tp ≡ before.tp
  pub pp : after.pp ≡ before.pp
  pub bc : after.bc ≡ before.bc
  pub ix : after.ix ≡ before.ix
  pub cc : after.cc ≡ before.cc
  pub mc : after.mc ≡ before.mc
  pub psw : after.psw ≡ before.psw
  pub mode : after.mode ≡ before.mode
  pub mark : after.armed ≡ before.armed
  pub fields : after.fields ≡ before.fields

-- BC less both bytes of a pair
abbrev pub pair_less : Channel → ℕ
pair_less c = (c.bc + 65534) % 65536

-- the code of the end of a pair: TMC met, BC now 0, TS
abbrev pub pair_code : Channel → Buffers → Bool → ℕ
pair_code c m met =
    max_of c m
    (max_of c m (pick met (field c.cc 0 3 % 4) 0) (pick (eqb (pair_less c) 0) (field c.cc 3 2) 0))
    (pick (eqb (bit c.cc 7) 1) 1 0)

-- a pair is over, its sides on by so many bytes: BC is less by both, nothing is held, and it ends as its code says, from the TP, PSW and mode that its
-- last half found
pub record PairOver (c : Channel) (m : Buffers) (by : ℕ) (met : Bool) (task : Pointer) (psw : ℕ) (state : Mode) (after : Channel) : Type 0 where
  pub ga : after.ga ≡ pick (eqb (bit c.cc (pick (eqb (bit c.cc 10) 1) 15 14)) 1) (pointer_on c.ga by) c.ga
  pub gb : after.gb ≡ pick (eqb (bit c.cc (pick (eqb (bit c.cc 10) 1) 14 15)) 1) (pointer_on c.gb by) c.gb
  pub bc : after.bc ≡ pair_less c
  pub tp : after.tp ≡ pick (eqb (pair_code c m met) 0) task (pointer_on task (offset_in (pair_code c m met)))
  pub status : (k : ℕ) → bit after.psw k ≡ pick (not (eqb (pair_code c m met) 0) && eqb k 6) 0 (bit psw k)
  pub gc : after.gc ≡ c.gc
  pub pp : after.pp ≡ c.pp
  pub ix : after.ix ≡ c.ix
  pub cc : after.cc ≡ c.cc
  pub fields : after.fields ≡ c.fields
  pub mc : after.mc ≡ c.mc
  pub mode : after.mode ≡ state
  pub mark : after.armed ≡ c.armed
  pub held : after.held ≡ None

-- these being the channel's own
abbrev pub PairLeft : Channel → Buffers → ℕ → Bool → Channel → Type 0
PairLeft c m by met after = PairOver c m by met c.tp c.psw c.mode after

-- a half of a channel's pair that is done
pub record HalfLeft (c : Channel) (m : Buffers) (after : Channel) (m' : Buffers) : Type 0 where
  -- the first of two fetches takes the source's byte and holds it; no other register and no byte of memory changes
  pub first_fetch : fetches_twice c m ≡ true → c.held ≡ None
      → OnlyHeld c after × (after.held ≡ Some (byte_at m (from_pointer c m).tag (from_pointer c m).address)) × (m' ≡ m)
  -- the second reads one byte and stores the word: the held byte, at which TMC looks, and the one read
  pub second_fetch : (byte : ℕ) → fetches_twice c m ≡ true → c.held ≡ Some byte
      → PairLeft c m 2 (meets_in c m byte) after
      × (m'
      ≡ store_byte (store_byte m (into_pointer c m).tag (into_pointer c m).address byte) (into_pointer c m).tag (into_second c m)
      (byte_at m (from_pointer c m).tag (from_second c m)))
  -- the first of two stores reads both bytes and stores the first; it does not meet TMC: the second is held, and no other register changes
  pub first_store : stores_twice c m ≡ true → c.held ≡ None → meets_in c m (first_byte c m) ≡ false
      → OnlyHeld c after × (after.held ≡ Some (byte_at m (from_pointer c m).tag (from_second c m)))
      × (m' ≡ store_byte m (into_pointer c m).tag (into_pointer c m).address (first_byte c m))
  -- it meets TMC: the transfer ends here, pointers on by 1, BC less 2
  pub first_met : stores_twice c m ≡ true → c.held ≡ None → meets_in c m (first_byte c m) ≡ true
      → PairLeft c m 1 true after × (m' ≡ store_byte m (into_pointer c m).tag (into_pointer c m).address (first_byte c m))
  -- the second stores the held byte, at which TMC looks, whatever the source holds now
  pub second_store : (byte : ℕ) → stores_twice c m ≡ true → c.held ≡ Some byte
      → PairLeft c m 2 (meets_in c m byte) after × (m' ≡ store_byte m (into_pointer c m).tag (into_second c m) byte)

-- ---- which bytes a half touches

-- the bytes that a half reads or stores, at which 2 looks after 5 (§7.11), and at no others
pub record HalfTouches (c : Channel) (m : Buffers) : Type 0 where
  pub first_fetch : fetches_twice c m ≡ true → c.held ≡ None
      → touched_by_transfer c m ≡ place_at (from_pointer c m).tag (from_pointer c m).address ∷ []
  pub second_fetch : (byte : ℕ) → fetches_twice c m ≡ true → c.held ≡ Some byte
      → touched_by_transfer c m
      ≡ place_at (from_pointer c m).tag (from_second c m)
      ∷ place_at (into_pointer c m).tag (into_pointer c m).address
      ∷ place_at (into_pointer c m).tag (into_second c m)
      ∷ []
  pub first_store : stores_twice c m ≡ true → c.held ≡ None
      → touched_by_transfer c m
      ≡ place_at (from_pointer c m).tag (from_pointer c m).address
      ∷ place_at (from_pointer c m).tag (from_second c m)
      ∷ place_at (into_pointer c m).tag (into_pointer c m).address
      ∷ []
  pub second_store : (byte : ℕ) → stores_twice c m ≡ true → c.held ≡ Some byte
      → touched_by_transfer c m ≡ place_at (into_pointer c m).tag (into_second c m) ∷ []

-- ---- the calls

-- two step calls that are the halves of a pair, the second in some state and memory
pub record HalvesOf (second : Bool) (s : State) (m : Buffers) (lines : ℕ) (s' : State) (m' : Buffers) (lines' : ℕ) : Type 0 where
  -- a pair is due and nothing is held
  pub due : half_due (channel_of s second) m ≡ true
  pub free : (channel_of s second).held ≡ None
  -- the first is done, and no match ends it: it holds a byte
  pub first : Transfers second s m lines
  pub byte : ℕ
  pub holds : (ran_channel second s m lines).held ≡ Some byte
  -- the second is done
  pub next : Transfers second s' m' lines'

-- with nothing between
abbrev pub Halves : Bool → State → Buffers → ℕ → ℕ → Type 0
Halves second s m lines lines' = HalvesOf second s m lines (step_of s m lines).state (step_of s m lines).memory lines'

pub record HalfSheet (second : Bool) (s : State) (m : Buffers) (lines : ℕ) : Type 0 where
  -- a half that is done, of a state whose fields are those of CC
  pub half : Transfers second s m lines → HalfLeft (channel_of s second) m (ran_channel second s m lines) (step_of s m lines).memory
  pub touches : agree s ≡ true → HalfTouches (channel_of s second) m
  -- the two halves together leave the registers and memory of the whole move, and count what it counts
  pub joined : (lines' : ℕ) → Halves second s m lines lines'
      → TransferLeft (channel_of s second) m (ran_channel second (step_of s m lines).state (step_of s m lines).memory lines')
      (step_of (step_of s m lines).state (step_of s m lines).memory lines').memory
      × (step_count s m lines + step_count (step_of s m lines).state (step_of s m lines).memory lines' ≡ 4)
  -- a done instruction leaves nothing held
  pub executes : HasTurn second s m lines → bit (channel_of s second).psw 6 ≡ 0 → (step_of s m lines).number ≡ 0
      → (ran_channel second s m lines).held ≡ None
