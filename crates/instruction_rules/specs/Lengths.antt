-- How many bytes an instruction has and what they are for: pair, offset byte, data, displacement, in this order (§6.6).
use Rattle.std.specs.Prelude.{Bool, ◌||◌, ℕ, ◌+◌, eqb, leb}
use Rattle.ground_rules.specs.Choice.{pick}
use Rattle.instruction_rules.specs.declared.Memory.{Memory}
use Rattle.instruction_rules.specs.declared.Pair.{Pair}
use Rattle.instruction_rules.specs.declared.Shape.{Shape}
use Rattle.instruction_rules.specs.declared.Shape.TheVariants.{Nop, Sintr, Xfer, Wid, Hlt, Lpdi, RegisterImmediate, Register, JumpRegister, RegisterMemory, MemoryRegister, MemoryImmediate, MemoryAlone, JumpMemory, Lpd, MovpLoad, MovpStore, MovMemory, Tsl, Call, JumpMasked, JumpBit, Bit}

-- one byte more, or none
abbrev pub more_by : Bool → ℕ
more_by more = pick more 1 0

-- two bytes more, or none
abbrev pub two_by : Bool → ℕ
two_by more = pick more 2 0

-- an offset byte follows where AA is 01
abbrev pub offset_by : ℕ → ℕ
offset_by aa = more_by (eqb aa 1)

-- data or a displacement of one byte or two
abbrev pub one_or_two : Bool → ℕ
one_or_two two = 1 + more_by two

-- how many bytes an instruction has of each kind; a second pair's own offset byte is not among them
pub record Parts : Type 0 where
  pub pairs : ℕ
  pub offset : ℕ
  pub immediate : ℕ
  pub displacement : ℕ

-- the pair alone
abbrev pub pair_alone : Parts
pair_alone = record { pairs = 2; offset = 0; immediate = 0; displacement = 0 }

-- the pair of a memory operand
abbrev pub operand_pair : Memory → Parts
operand_pair m = record { pairs = 2; offset = offset_by m.aa; immediate = 0; displacement = 0 }

-- the pair of a memory operand, and a displacement
abbrev pub operand_jump : Memory → Bool → Parts
operand_jump m two = record { pairs = 2; offset = offset_by m.aa; immediate = 0; displacement = one_or_two two }

-- what the bytes of an instruction of each shape are for
abbrev pub parts_of : Shape → Parts
parts_of Nop = pair_alone
parts_of Sintr = pair_alone
parts_of Xfer = pair_alone
parts_of (Wid source destination) = pair_alone
parts_of Hlt = pair_alone
parts_of (Lpdi ppp) = record { pairs = 2; offset = 0; immediate = 4; displacement = 0 }
parts_of (RegisterImmediate work rrr wide) = record { pairs = 2; offset = 0; immediate = one_or_two wide; displacement = 0 }
parts_of (Register single rrr) = pair_alone
parts_of (JumpRegister zero rrr two) = record { pairs = 2; offset = 0; immediate = 0; displacement = one_or_two two }
parts_of (RegisterMemory work rrr m) = operand_pair m
parts_of (MemoryRegister work rrr m) = operand_pair m
parts_of (MemoryImmediate work m) = record { pairs = 2; offset = offset_by m.aa; immediate = one_or_two m.wide; displacement = 0 }
parts_of (MemoryAlone single m) = operand_pair m
parts_of (JumpMemory zero m two) = operand_jump m two
parts_of (Lpd ppp m) = operand_pair m
parts_of (MovpLoad ppp m) = operand_pair m
parts_of (MovpStore ppp m) = operand_pair m
parts_of (MovMemory m) = record { pairs = 4; offset = offset_by m.aa; immediate = 0; displacement = 0 }
parts_of (Tsl m) = record { pairs = 2; offset = offset_by m.aa; immediate = 1; displacement = 1 }
parts_of (Call m two) = operand_jump m two
parts_of (JumpMasked equal m two) = operand_jump m two
parts_of (JumpBit set bit m two) = operand_jump m two
parts_of (Bit on bit m) = operand_pair m

-- the bytes of an operand's offset
unfoldable pub offset_length : Memory → ℕ
offset_length m = offset_by m.aa

-- the bytes of data
unfoldable pub data_length : Shape → ℕ
data_length s = (parts_of s).immediate

-- the bytes of the displacement
unfoldable pub displacement_length : Shape → ℕ
displacement_length s = (parts_of s).displacement

-- the bytes of an instruction, without the offset byte of a second pair
unfoldable pub length_of : Shape → ℕ
length_of s = (parts_of s).pairs + (parts_of s).offset + data_length s + displacement_length s

-- the opcodes of LPDI, with its four bytes of data, and of MOV M,M, with its second pair: two bytes more than dd announces
abbrev pub long_code : ℕ → Bool
long_code opcode = eqb opcode 0x02 || eqb opcode 0x24

-- the bytes of the instruction that a pair begins: two, one more where AA is 01, as many as dd announces (TSL's 11 announces two), two more for a long code
unfoldable pub pair_length : Pair → ℕ
pair_length p = 2 + offset_by p.aa + more_by (eqb p.dd 1) + two_by (leb 2 p.dd) + two_by (long_code p.opcode)
