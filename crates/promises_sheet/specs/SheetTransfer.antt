-- The sheet of a transfer step (§7): sides, bytes, ends, counts and the places it touches by bits of CC and PSW.
use Rattle.std.specs.Prelude.{Bool, true, false, not, ◌&&◌, ◌||◌, List, [], ◌∷◌, ◌++◌, ◌≡◌, ℕ, ◌+◌, ◌-◌, ◌/◌, ◌%◌, eqb, ltb, None}
use Rattle.std.specs.Int.Bits.{bit_and, bit_xor}
use Rattle.ground_rules.specs.Choice.{pick}
use Rattle.ground_rules.specs.Buffers.{Buffers, byte_at, store_byte}
use Rattle.ground_rules.specs.Places.{Place}
use Rattle.ground_rules.specs.declared.Pointer.{Pointer}
use Rattle.ground_rules.specs.States.{channel_of, agree}
use Rattle.ground_rules.specs.declared.Channel.{Channel}
use Rattle.ground_rules.specs.declared.State.{State}
use Rattle.transfer_rules.specs.Steps.{touched_by_transfer}
use Rattle.turn_rules.specs.Step.{step_of}
use Rattle.promises.specs.Calls.{HasTurn}
use Rattle.promises.specs.SheetWords.{bit, field, pointer_on}
use Rattle.promises_sheet.specs.SheetOperands.{ran_channel}
use Rattle.promises_sheet.specs.SheetTurns.{offset_in}

-- a byte of a space
abbrev pub place_at : Bool → ℕ → Place
place_at tag address = record { tag = tag; address = address }

-- a place, where a test holds, before others
abbrev pub place_if : Bool → Place → List Place → List Place
place_if on p ps = pick on (p ∷ ps) ps

module _ (c : Channel) (m : Buffers) where
  -- the sides by bit 10 of CC (§7.1)
  abbrev pub from_pointer : Pointer
  from_pointer = pick (eqb (bit c.cc 10) 1) c.gb c.ga

  abbrev pub into_pointer : Pointer
  into_pointer = pick (eqb (bit c.cc 10) 1) c.ga c.gb

  -- word sides: bit 1 of PSW for the source and bit 0 for the destination, at an even address (§7.2)
  abbrev pub from_word_side : Bool
  from_word_side = eqb (bit c.psw 1) 1 && not (eqb (bit from_pointer.address 0) 1)

  abbrev pub into_word_side : Bool
  into_word_side = eqb (bit c.psw 0) 1 && not (eqb (bit into_pointer.address 0) 1)

  -- two bytes move, but the last of a count, TBC being bits 4-3 of CC (§7.3)
  abbrev pub two_go : Bool
  two_go = (from_word_side || into_word_side) && not (not (eqb (field c.cc 3 2) 0) && eqb c.bc 1)

  -- where a second byte lies: bits 14 and 15 of CC say whether a side moves on (§7.4)
  abbrev pub from_second : ℕ
  from_second = pick (from_word_side || eqb (bit c.cc 14) 1) ((from_pointer.address + 1) % 1048576) from_pointer.address

  abbrev pub into_second : ℕ
  into_second = pick (into_word_side || eqb (bit c.cc 15) 1) ((into_pointer.address + 1) % 1048576) into_pointer.address

  -- where the byte that stands for the first one read lies: so far past GC as that one says (§7.6)
  abbrev pub entry_in : ℕ
  entry_in = (c.gc.address + byte_at m from_pointer.tag from_pointer.address) % 1048576

  -- the bytes to be stored; the first translated with bit 13 of CC (§7.6)
  abbrev pub first_byte : ℕ
  first_byte = pick (eqb (bit c.cc 13) 1) (byte_at m c.gc.tag entry_in) (byte_at m from_pointer.tag from_pointer.address)

  abbrev pub second_byte : ℕ
  second_byte = pick two_go (byte_at m from_pointer.tag from_second) 0

  -- a byte meets TMC, bits 2-0 of CC: it matches MC, or with bit 2 does not (§7.7)
  abbrev pub matches_in : ℕ → Bool
  matches_in byte = eqb (bit_and (bit_xor byte (c.mc % 256)) (c.mc / 256 % 256)) 0

  abbrev pub meets_in : ℕ → Bool
  meets_in byte = not (eqb (field c.cc 0 3 % 4) 0) && pick (eqb (bit (field c.cc 0 3) 2) 1) (not (matches_in byte)) (matches_in byte)

  -- two bytes go singly to a side that is no word side; a match at the first prevents the second (§7.8)
  abbrev pub singly : Bool
  singly = two_go && not into_word_side

  abbrev pub two_stored : Bool
  two_stored = two_go && not (singly && meets_in first_byte)

  -- the bytes stored, by which pointers gain (§7.9)
  abbrev pub stored_count : ℕ
  stored_count = pick two_stored 2 1

  -- the bytes fetched, and BC after them (§7.9)
  abbrev pub fetched_count : ℕ
  fetched_count = pick two_go 2 1

  abbrev pub count_left : ℕ
  count_left = (c.bc + (65536 - fetched_count)) % 65536

  -- the larger of two codes
  abbrev pub max_of : ℕ → ℕ → ℕ
  max_of a b = pick (ltb a b) b a

  -- the code of the end (§7.10): of a stored word the low byte alone is compared; TS is bit 7 of CC
  abbrev pub code_of_end : ℕ
  code_of_end =
      max_of
      (max_of (pick (meets_in first_byte || singly && meets_in second_byte) (field c.cc 0 3 % 4) 0) (pick (eqb count_left 0) (field c.cc 3 2) 0))
      (pick (eqb (bit c.cc 7) 1) 1 0)

  -- one request, one byte (§7.14): SYN, bits 12-11 of CC, is 01 and two bytes come from a source that is no word side, or it is 10 and they go to
  -- a destination that is none
  abbrev pub fetches_twice : Bool
  fetches_twice = eqb (field c.cc 11 2) 1 && (two_go && not from_word_side)

  abbrev pub stores_twice : Bool
  stores_twice = eqb (field c.cc 11 2) 2 && singly

  abbrev pub half_due : Bool
  half_due = fetches_twice || stores_twice

  -- the bytes that a step which is no half reads, each access once (§7.11): the source's first, its second where two move, the translated one
  abbrev pub whole_reads : List Place
  whole_reads =
      place_at from_pointer.tag from_pointer.address
      ∷ place_if two_go (place_at from_pointer.tag from_second)
      (place_if (eqb (bit c.cc 13) 1) (place_at c.gc.tag entry_in) [])

  -- and those that it stores: the destination's first, and its second where two are stored
  abbrev pub whole_stores : List Place
  whole_stores = place_at into_pointer.tag into_pointer.address ∷ place_if two_stored (place_at into_pointer.tag into_second) []

  -- a pointer on by the bytes stored
  abbrev pub gains_in : Bool → Pointer → Pointer
  gains_in on p = pick on (pointer_on p stored_count) p

-- the channel and memory after a transfer step that is no half of a pair
pub record TransferLeft (c : Channel) (m : Buffers) (after : Channel) (m' : Buffers) : Type 0 where
  pub ga : after.ga ≡ gains_in c m (eqb (bit c.cc (pick (eqb (bit c.cc 10) 1) 15 14)) 1) c.ga
  pub gb : after.gb ≡ gains_in c m (eqb (bit c.cc (pick (eqb (bit c.cc 10) 1) 14 15)) 1) c.gb
  pub bc : after.bc ≡ count_left c m
  pub tp : after.tp ≡ pick (eqb (code_of_end c m) 0) c.tp (pointer_on c.tp (offset_in (code_of_end c m)))
  pub status : (k : ℕ) → bit after.psw k ≡ pick (not (eqb (code_of_end c m) 0) && eqb k 6) 0 (bit c.psw k)
  pub gc : after.gc ≡ c.gc
  pub pp : after.pp ≡ c.pp
  pub ix : after.ix ≡ c.ix
  pub cc : after.cc ≡ c.cc
  pub fields : after.fields ≡ c.fields
  pub mc : after.mc ≡ c.mc
  pub mode : after.mode ≡ c.mode
  pub mark : after.armed ≡ c.armed
  pub held : after.held ≡ None
  pub stored : m'
      ≡ pick (two_stored c m)
      (store_byte (store_byte m (into_pointer c m).tag (into_pointer c m).address (first_byte c m)) (into_pointer c m).tag (into_second c m) (second_byte c m))
      (store_byte m (into_pointer c m).tag (into_pointer c m).address (first_byte c m))

-- a step call is a channel's transfer step, and is done
pub record Transfers (second : Bool) (s : State) (m : Buffers) (lines : ℕ) : Type 0 where
  pub turn : HasTurn second s m lines
  pub on : bit (channel_of s second).psw 6 ≡ 1
  pub done : (step_of s m lines).number ≡ 0

-- a transfer step that is no half of a pair
pub record TransferSheet (second : Bool) (s : State) (m : Buffers) (lines : ℕ) : Type 0 where
  -- what a step call that is a channel's turn with XF leaves where it is done
  pub transfer : Transfers second s m lines → half_due (channel_of s second) m ≡ false
      → TransferLeft (channel_of s second) m (ran_channel second s m lines) (step_of s m lines).memory
  -- which bytes it touches, at which 2 looks after 5 (§7.11), and at no others, whether it is done or refused
  pub touches : agree s ≡ true → half_due (channel_of s second) m ≡ false
      → touched_by_transfer (channel_of s second) m ≡ whole_reads (channel_of s second) m ++ whole_stores (channel_of s second) m
