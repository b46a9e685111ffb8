-- What stands at the head of some bytes: a whole instruction, a byte at which none starts, or nothing (§13.3).
use Rattle.std.specs.Prelude.{false, List, ℕ, ◌+◌, eqb, ltb, length, get_or, drop, Ok, Err, Option, Some, None}
use Rattle.ground_rules.specs.Choice.{pick}
use Rattle.instruction_rules.specs.declared.Memory.{Memory}
use Rattle.instruction_rules.specs.declared.Shape.{Shape}
use Rattle.instruction_rules.specs.declared.Shape.TheVariants.{Nop, Sintr, Xfer, Wid, Hlt, Lpdi, RegisterImmediate, Register, JumpRegister, RegisterMemory, MemoryRegister, MemoryImmediate, MemoryAlone, JumpMemory, Lpd, MovpLoad, MovpStore, MovMemory, Tsl, Call, JumpMasked, JumpBit, Bit}
use Rattle.instruction_rules.specs.Decoded.{Decoded}
use Rattle.instruction_rules.specs.declared.Unread.TheVariants.{NoInstruction, ControlUsed}
use Rattle.instruction_rules.specs.Reading.{decode_of, second_of}
use Rattle.instruction_rules.specs.Lengths.{length_of, offset_length}
use Rattle.listing_rules.specs.declared.Item.{Item}
use Rattle.listing_rules.specs.declared.Item.TheVariants.{Whole, Byte, End}

-- an operand that is none, for instructions without a second pair
abbrev pub nowhere : Memory
nowhere = record { mm = 0; aa = 0; wide = false }

-- what the second pair of MOV M,M is, behind its first pair and that pair's offset byte (§6.5)
unfoldable pub to_of : List ℕ → Shape → Option Memory
to_of bytes Nop = Some nowhere
to_of bytes Sintr = Some nowhere
to_of bytes Xfer = Some nowhere
to_of bytes (Wid source destination) = Some nowhere
to_of bytes Hlt = Some nowhere
to_of bytes (Lpdi ppp) = Some nowhere
to_of bytes (RegisterImmediate work rrr wide) = Some nowhere
to_of bytes (Register single rrr) = Some nowhere
to_of bytes (JumpRegister zero rrr two) = Some nowhere
to_of bytes (RegisterMemory work rrr m) = Some nowhere
to_of bytes (MemoryRegister work rrr m) = Some nowhere
to_of bytes (MemoryImmediate work m) = Some nowhere
to_of bytes (MemoryAlone single m) = Some nowhere
to_of bytes (JumpMemory zero m two) = Some nowhere
to_of bytes (Lpd ppp m) = Some nowhere
to_of bytes (MovpLoad ppp m) = Some nowhere
to_of bytes (MovpStore ppp m) = Some nowhere
to_of bytes (MovMemory m) = second_of (get_or bytes (2 + offset_length m) 0) (get_or bytes (3 + offset_length m) 0) m.wide
to_of bytes (Tsl m) = Some nowhere
to_of bytes (Call m two) = Some nowhere
to_of bytes (JumpMasked equal m two) = Some nowhere
to_of bytes (JumpBit set bit m two) = Some nowhere
to_of bytes (Bit on bit m) = Some nowhere

-- an instruction with the operand of its second pair, if all its bytes are there (§13.3)
unfoldable pub whole_of : List ℕ → Shape → Option Memory → Item
whole_of bytes shape (Some to) = pick (ltb (length bytes) (length_of shape + offset_length to)) Byte (Whole shape to (length_of shape + offset_length to))
whole_of bytes shape None = Byte

-- an instruction as its first pair shows it, if its bytes up to and with a second pair are there (§13.3)
unfoldable pub read_of : List ℕ → Decoded → Item
read_of bytes (Ok shape) = pick (ltb (length bytes) (length_of shape)) Byte (whole_of bytes shape (to_of bytes shape))
read_of bytes (Err NoInstruction) = Byte
read_of bytes (Err ControlUsed) = Byte

-- what some bytes begin with (§13.3)
unfoldable pub item_of : List ℕ → Item
item_of bytes = pick (eqb (length bytes) 0) End (pick (eqb (length bytes) 1) Byte (read_of bytes (decode_of (get_or bytes 0 0) (get_or bytes 1 0))))

-- how many bytes that is
abbrev pub count_of : Item → ℕ
count_of (Whole shape to count) = count
count_of Byte = 1
count_of End = 0

-- the place behind what stands at a place
unfoldable pub behind_of : List ℕ → ℕ → ℕ
behind_of code at = at + count_of (item_of (drop at code))
