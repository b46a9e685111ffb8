-- The operands of the instructions: which places a shape has for them, destination first; what the bytes put there; how that is spelled (§13.1).
use Rattle.std.specs.Prelude.{Bool, true, false, List, [], ◌∷◌, ◌++◌, ℕ, ◌+◌, ◌%◌, eqb, get_or}
use Rattle.ground_rules.specs.Choice.{pick}
use Rattle.ground_rules.specs.Bytes.{word_of, low_byte, high_byte}
use Rattle.ground_rules.specs.Signs.{extended}
use Rattle.instruction_rules.specs.declared.Memory.{Memory}
use Rattle.instruction_rules.specs.declared.Shape.{Shape}
use Rattle.instruction_rules.specs.declared.Shape.TheVariants.{Nop, Sintr, Xfer, Wid, Hlt, Lpdi, RegisterImmediate, Register, JumpRegister, RegisterMemory, MemoryRegister, MemoryImmediate, MemoryAlone, JumpMemory, Lpd, MovpLoad, MovpStore, MovMemory, Tsl, Call, JumpMasked, JumpBit, Bit}
use Rattle.instruction_rules.specs.Lengths.{offset_length}
use Rattle.listing_rules.specs.Characters.{ascii, number_text, digit_text}
use Rattle.listing_rules.specs.Mnemonics.{is_jump}
use Rattle.listing_rules.specs.declared.Slot.{Slot}
use Rattle.listing_rules.specs.declared.Slot.TheVariants.{Empty, Name, Place, Number, Target, Digit}
use Rattle.listing_rules.specs.declared.Slots.{Slots}

-- the three places of a line
abbrev pub slots : Slot → Slot → Slot → Slots
slots a b c = record { first = a; second = b; third = c }

-- the width of a side, by its bit of WID
abbrev pub width_of : Bool → ℕ
width_of wide = pick wide 16 8

-- what follows the pair and the offset byte of an operand
unfoldable pub after_offset : Memory → ℕ
after_offset m = 2 + offset_length m

-- the places of an instruction's operands, each with where its bytes lie behind the instruction's first; `to` is the operand of the second pair of MOV M,M (§13.1)
unfoldable pub slots_of : Shape → Memory → Slots
slots_of Nop to = slots Empty Empty Empty
slots_of Sintr to = slots Empty Empty Empty
slots_of Xfer to = slots Empty Empty Empty
slots_of (Wid source destination) to = slots (Digit (width_of source)) (Digit (width_of destination)) Empty
slots_of Hlt to = slots Empty Empty Empty
slots_of (Lpdi ppp) to = slots (Name ppp) (Number 2 true) (Number 4 true)
slots_of (RegisterImmediate work rrr wide) to = pick (is_jump work rrr) (slots (Target 2 wide) Empty Empty) (slots (Name rrr) (Number 2 wide) Empty)
slots_of (Register single rrr) to = slots (Name rrr) Empty Empty
slots_of (JumpRegister zero rrr two) to = slots (Name rrr) (Target 2 two) Empty
slots_of (RegisterMemory work rrr m) to = slots (Name rrr) (Place m 2) Empty
slots_of (MemoryRegister work rrr m) to = slots (Place m 2) (Name rrr) Empty
slots_of (MemoryImmediate work m) to = slots (Place m 2) (Number (after_offset m) m.wide) Empty
slots_of (MemoryAlone single m) to = slots (Place m 2) Empty Empty
slots_of (JumpMemory zero m two) to = slots (Place m 2) (Target (after_offset m) two) Empty
slots_of (Lpd ppp m) to = slots (Name ppp) (Place m 2) Empty
slots_of (MovpLoad ppp m) to = slots (Name ppp) (Place m 2) Empty
slots_of (MovpStore ppp m) to = slots (Place m 2) (Name ppp) Empty
slots_of (MovMemory m) to = slots (Place to (after_offset m + 2)) (Place m 2) Empty
slots_of (Tsl m) to = slots (Place m 2) (Number (after_offset m) false) (Target (after_offset m + 1) false)
slots_of (Call m two) to = slots (Place m 2) (Target (after_offset m) two) Empty
slots_of (JumpMasked equal m two) to = slots (Place m 2) (Target (after_offset m) two) Empty
slots_of (JumpBit set bit m two) to = slots (Place m 2) (Digit bit) (Target (after_offset m) two)
slots_of (Bit on bit m) to = slots (Place m 2) (Digit bit) Empty

-- an operand: a register by RRR; memory by MM, AA and its offset byte, if it has one; a number by its bytes, low byte first; a bit or a width
pub data Operand : Type 0 where
  none : Operand
  register : ℕ → Operand
  memory : ℕ → ℕ → List ℕ → Operand
  number : List ℕ → Operand
  digit : ℕ → Operand

-- one byte or two from a place on
abbrev pub data_from : List ℕ → ℕ → Bool → List ℕ
data_from bytes at two = get_or bytes at 0 ∷ pick two (get_or bytes (at + 1) 0 ∷ []) []

-- a displacement of one byte or two, sign-extended (§6.11)
abbrev pub reach_from : List ℕ → ℕ → Bool → ℕ
reach_from bytes at two = pick two (extended 16 (word_of (get_or bytes at 0) (get_or bytes (at + 1) 0))) (extended 8 (get_or bytes at 0))

-- the address that a jump goes to, counted from the instruction's end; addresses count mod 65,536 (§13.1)
unfoldable pub target_of : ℕ → ℕ → ℕ
target_of end reach = (end + reach) % 65536

-- the two bytes of a word
abbrev pub word_bytes : ℕ → List ℕ
word_bytes x = low_byte x ∷ high_byte x ∷ []

-- the operand that an instruction's bytes put into a place; `end` is the address behind the instruction
unfoldable pub filled : List ℕ → ℕ → Slot → Operand
filled bytes end Empty = none
filled bytes end (Name rrr) = register rrr
filled bytes end (Place m at) = memory m.mm m.aa (pick (eqb m.aa 1) (get_or bytes at 0 ∷ []) [])
filled bytes end (Number at two) = number (data_from bytes at two)
filled bytes end (Target at two) = number (word_bytes (target_of end (reach_from bytes at two)))
filled bytes end (Digit n) = digit n

-- the registers, RRR 0 to 6; the last, RRR 7, is MC (§13.1)
abbrev pub register_names : List (List ℕ)
register_names = ascii "GA" ∷ ascii "GB" ∷ ascii "GC" ∷ ascii "BC" ∷ ascii "TP" ∷ ascii "IX" ∷ ascii "CC" ∷ []

unfoldable pub register_name : ℕ → List ℕ
register_name rrr = get_or register_names rrr (ascii "MC")

-- the bases, MM 0 to 2; the last, MM 3, is PP (§13.1)
abbrev pub base_names : List (List ℕ)
base_names = ascii "[GA" ∷ ascii "[GB" ∷ ascii "[GC" ∷ []

unfoldable pub base_name : ℕ → List ℕ
base_name mm = get_or base_names mm (ascii "[PP")

-- AA 0 to 2: base, base with an offset byte, base + IX; the last, AA 3, grows IX (§13.1)
abbrev pub mode_texts : List (List ℕ)
mode_texts = ascii "]" ∷ ascii "]." ∷ ascii "+IX]" ∷ []

unfoldable pub mode_text : ℕ → List ℕ
mode_text aa = get_or mode_texts aa (ascii "+IX+]")

-- an offset byte, unsigned, if there is one (§13.1)
abbrev pub offset_text : List ℕ → List ℕ
offset_text [] = []
offset_text (b ∷ bytes) = number_text (b ∷ [])

-- an operand as it is written (§13.1)
unfoldable pub spelled : Operand → List ℕ
spelled none = []
spelled (register rrr) = register_name rrr
spelled (memory mm aa offset) = base_name mm ++ (mode_text aa ++ offset_text offset)
spelled (number bytes) = number_text bytes
spelled (digit n) = digit_text n

-- an operand behind its separator; no operand, no separator
unfoldable pub following : ℕ → Operand → List ℕ
following separator none = []
following separator (register rrr) = separator ∷ spelled (register rrr)
following separator (memory mm aa offset) = separator ∷ spelled (memory mm aa offset)
following separator (number bytes) = separator ∷ spelled (number bytes)
following separator (digit n) = separator ∷ spelled (digit n)
