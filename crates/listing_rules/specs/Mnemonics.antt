-- The words of the instructions: the stem of the opcode, L in front where the displacement has two bytes, B behind where the operand is a byte, and I for an immediate (§13.2).
use Rattle.std.specs.Prelude.{Bool, true, false, List, [], ◌++◌, ℕ, eqb}
use Rattle.ground_rules.specs.Choice.{pick}
use Rattle.instruction_rules.specs.declared.Work.{Work}
use Rattle.instruction_rules.specs.declared.Single.{Single}
use Rattle.instruction_rules.specs.declared.Shape.{Shape}
use Rattle.instruction_rules.specs.declared.Shape.TheVariants.{Nop, Sintr, Xfer, Wid, Hlt, Lpdi, RegisterImmediate, Register, JumpRegister, RegisterMemory, MemoryRegister, MemoryImmediate, MemoryAlone, JumpMemory, Lpd, MovpLoad, MovpStore, MovMemory, Tsl, Call, JumpMasked, JumpBit, Bit}
use Rattle.listing_rules.specs.Characters.{ascii}

-- dd 10: a displacement of two bytes is a long transfer (§13.2)
abbrev pub long_mark : Bool → List ℕ
long_mark two = pick two (ascii "L") []

-- W 0: the operand is a byte (§13.2)
abbrev pub byte_mark : Bool → List ℕ
byte_mark wide = pick wide [] (ascii "B")

-- the stems of what has two operands, and of what has one
abbrev pub work_stem : Work → List ℕ
work_stem Work.Mov = ascii "MOV"
work_stem Work.Add = ascii "ADD"
work_stem Work.Or = ascii "OR"
work_stem Work.And = ascii "AND"
work_stem Work.Not = ascii "NOT"

abbrev pub single_stem : Single → List ℕ
single_stem Single.Not = ascii "NOT"
single_stem Single.Inc = ascii "INC"
single_stem Single.Dec = ascii "DEC"

-- a jump is an immediate added to TP (§13.2)
unfoldable pub is_jump : Work → ℕ → Bool
is_jump Work.Mov rrr = false
is_jump Work.Add rrr = eqb rrr 4
is_jump Work.Or rrr = false
is_jump Work.And rrr = false
is_jump Work.Not rrr = false

-- the word of an instruction (§13.2)
unfoldable pub mnemonic_of : Shape → List ℕ
mnemonic_of Nop = ascii "NOP"
mnemonic_of Sintr = ascii "SINTR"
mnemonic_of Xfer = ascii "XFER"
mnemonic_of (Wid source destination) = ascii "WID"
mnemonic_of Hlt = ascii "HLT"
mnemonic_of (Lpdi ppp) = ascii "LPDI"
mnemonic_of (RegisterImmediate work rrr wide) = pick (is_jump work rrr) (long_mark wide ++ ascii "JMP") (work_stem work ++ (byte_mark wide ++ ascii "I"))
mnemonic_of (Register single rrr) = single_stem single
mnemonic_of (JumpRegister zero rrr two) = long_mark two ++ pick zero (ascii "JZ") (ascii "JNZ")
mnemonic_of (RegisterMemory work rrr m) = work_stem work ++ byte_mark m.wide
mnemonic_of (MemoryRegister work rrr m) = work_stem work ++ byte_mark m.wide
mnemonic_of (MemoryImmediate work m) = work_stem work ++ (byte_mark m.wide ++ ascii "I")
mnemonic_of (MemoryAlone single m) = single_stem single ++ byte_mark m.wide
mnemonic_of (JumpMemory zero m two) = long_mark two ++ (pick zero (ascii "JZ") (ascii "JNZ") ++ byte_mark m.wide)
mnemonic_of (Lpd ppp m) = ascii "LPD"
mnemonic_of (MovpLoad ppp m) = ascii "MOVP"
mnemonic_of (MovpStore ppp m) = ascii "MOVP"
mnemonic_of (MovMemory m) = ascii "MOV" ++ byte_mark m.wide
mnemonic_of (Tsl m) = ascii "TSL"
mnemonic_of (Call m two) = long_mark two ++ ascii "CALL"
mnemonic_of (JumpMasked equal m two) = long_mark two ++ pick equal (ascii "JMCE") (ascii "JMCNE")
mnemonic_of (JumpBit set bit m two) = long_mark two ++ pick set (ascii "JBT") (ascii "JNBT")
mnemonic_of (Bit on bit m) = pick on (ascii "SETB") (ascii "CLR")

-- every instruction but CALL with W 0 has a line of its own: CALL as a word means W 1 (§13.3)
abbrev pub is_listed : Shape → Bool
is_listed Nop = true
is_listed Sintr = true
is_listed Xfer = true
is_listed (Wid source destination) = true
is_listed Hlt = true
is_listed (Lpdi ppp) = true
is_listed (RegisterImmediate work rrr wide) = true
is_listed (Register single rrr) = true
is_listed (JumpRegister zero rrr two) = true
is_listed (RegisterMemory work rrr m) = true
is_listed (MemoryRegister work rrr m) = true
is_listed (MemoryImmediate work m) = true
is_listed (MemoryAlone single m) = true
is_listed (JumpMemory zero m two) = true
is_listed (Lpd ppp m) = true
is_listed (MovpLoad ppp m) = true
is_listed (MovpStore ppp m) = true
is_listed (MovMemory m) = true
is_listed (Tsl m) = true
is_listed (Call m two) = m.wide
is_listed (JumpMasked equal m two) = true
is_listed (JumpBit set bit m two) = true
is_listed (Bit on bit m) = true
