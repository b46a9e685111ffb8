-- How many bytes an instruction of each shape reads and stores, each access once (§6.6, §6.22).
use Rattle.std.specs.Prelude.{Bool, ℕ, ◌+◌, eqb, Option, Some, None}
use Rattle.ground_rules.specs.Choice.{pick}
use Rattle.ground_rules.specs.Buffers.{Buffers}
use Rattle.ground_rules.specs.declared.Channel.{Channel}
use Rattle.instruction_rules.specs.declared.Memory.{Memory}
use Rattle.instruction_rules.specs.declared.Shape.{Shape}
use Rattle.instruction_rules.specs.declared.Shape.TheVariants.{Nop, Sintr, Xfer, Wid, Hlt, Lpdi, RegisterImmediate, Register, JumpRegister, RegisterMemory, MemoryRegister, MemoryImmediate, MemoryAlone, JumpMemory, Lpd, MovpLoad, MovpStore, MovMemory, Tsl, Call, JumpMasked, JumpBit, Bit}
use Rattle.instruction_rules.specs.Lengths.{offset_length, length_of}
use Rattle.instruction_rules.specs.Operands.{byte_here, size_of, effective}
use Rattle.instruction_rules.specs.MemoryForms.{read_first, second_at}

-- what MOV M,M accesses once its second pair is read: that pair's offset byte, what is read and what is stored
unfoldable pub second_count : Option Memory → Bool → ℕ
second_count (Some q) wide = offset_length q + size_of wide + size_of wide
second_count None wide = 0

-- what an instruction of each shape accesses besides the bytes of `length_of`: a second pair's offset byte, the operand bytes that it reads, those that it stores
unfoldable pub access_count : Shape → Buffers → Channel → ℕ
access_count Nop m c = 0
access_count Sintr m c = 0
access_count Xfer m c = 0
access_count (Wid source destination) m c = 0
-- BUSY
access_count Hlt m c = 1
access_count (Lpdi ppp) m c = 0
access_count (RegisterImmediate work rrr wide) m c = 0
access_count (Register single rrr) m c = 0
access_count (JumpRegister zero rrr two) m c = 0
access_count (RegisterMemory work rrr o) m c = size_of o.wide
access_count (MemoryRegister work rrr o) m c = read_first work o.wide + size_of o.wide
access_count (MemoryImmediate work o) m c = read_first work o.wide + size_of o.wide
access_count (MemoryAlone single o) m c = size_of o.wide + size_of o.wide
access_count (JumpMemory zero o two) m c = size_of o.wide
access_count (Lpd ppp o) m c = 4
access_count (MovpLoad ppp o) m c = 3
access_count (MovpStore ppp o) m c = 3
access_count (MovMemory o) m c = second_count (second_at m c.tp o) o.wide
-- TSL stores only where it found 0
access_count (Tsl o) m c = 1 + pick (eqb (byte_here m (effective m c o c.tp)) 0) 1 0
access_count (Call o two) m c = 3
access_count (JumpMasked equal o two) m c = 1
access_count (JumpBit set bit o two) m c = 1
access_count (Bit on bit o) m c = 2

-- a done instruction: its own bytes, those of a displacement also where it does not jump, and its accesses
unfoldable pub instruction_count : Shape → Buffers → Channel → ℕ
instruction_count s m c = length_of s + access_count s m c
