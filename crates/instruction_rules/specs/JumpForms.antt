-- Instructions that jump.
use Rattle.std.specs.Prelude.{Bool, false, not, [], ℕ, ◌%◌, eqb}
use Rattle.ground_rules.specs.Choice.{pick}
use Rattle.ground_rules.specs.Bits.{bit_of}
use Rattle.ground_rules.specs.Compare.{match_of}
use Rattle.ground_rules.specs.Buffers.{Buffers}
use Rattle.ground_rules.specs.Values.{onward}
use Rattle.ground_rules.specs.declared.Pointer.{Pointer}
use Rattle.ground_rules.specs.declared.Channel.{Channel}
use Rattle.ground_rules.specs.Registers.{register_of}
use Rattle.instruction_rules.specs.declared.Memory.{Memory}
use Rattle.instruction_rules.specs.Operands.{after_pair, byte_here, bytes_at, size_of, effective, grown, operand_at, jumped, jumped_if}
use Rattle.instruction_rules.specs.Changes.{nothing, byte_to, pointer_to}
use Rattle.instruction_rules.specs.Deeds.{Deed, deed}

-- a test, or its opposite
abbrev pub agrees : Bool → Bool → Bool
agrees wanted found = pick wanted found (not found)

-- JZ R, JNZ R: the low 16 bits count (§6.16)
unfoldable pub jump_register_deed : Buffers → Channel → Pointer → Bool → ℕ → Bool → Deed
jump_register_deed m c tp zero r two =
    deed [] (jumped_if (agrees zero (eqb (register_of c r % 65536) 0)) m c (onward tp 2) two) nothing

-- JZ M, JNZ M
unfoldable pub jump_memory_deed : Buffers → Channel → Pointer → Bool → Memory → Bool → Deed
jump_memory_deed m c tp zero o two =
    let at = effective m c o tp in
    deed (bytes_at at (size_of o.wide))
    (jumped_if (agrees zero (eqb (operand_at m at o.wide) 0)) m (grown c o (size_of o.wide)) (after_pair tp o) two) nothing

-- a jump on a byte that was tested
unfoldable pub jump_byte_deed : Buffers → Channel → Pointer → Pointer → Bool → Memory → Bool → Deed
jump_byte_deed m c tp at taken o two = deed (bytes_at at 1) (jumped_if taken m (grown c o 1) (after_pair tp o) two) nothing

-- JMCE, JMCNE: the masked compare with MC (§2.5)
unfoldable pub jump_masked_deed : Buffers → Channel → Pointer → Bool → Memory → Bool → Deed
jump_masked_deed m c tp equal o two =
    let at = effective m c o tp in
    jump_byte_deed m c tp at (agrees equal (match_of (byte_here m at) c.mc)) o two

-- JBT, JNBT
unfoldable pub jump_bit_deed : Buffers → Channel → Pointer → Bool → ℕ → Memory → Bool → Deed
jump_bit_deed m c tp set bit o two =
    let at = effective m c o tp in
    jump_byte_deed m c tp at (agrees set (bit_of (byte_here m at) bit)) o two

-- TSL: a byte that is 0 becomes the data, any other jumps; one byte of data, then one of displacement (§6.18)
unfoldable pub tsl_deed : Buffers → Channel → Pointer → Memory → Deed
tsl_deed m c tp o =
    let at = effective m c o tp in
    pick (eqb (byte_here m at) 0)
    (deed (bytes_at at 1) (grown c o 1) (byte_to at (byte_here m (after_pair tp o))))
    (deed (bytes_at at 1) (jumped m (grown c o 1) (onward (after_pair tp o) 1) false) nothing)

-- CALL stores TP in its stored form, then jumps (§6.17)
unfoldable pub call_deed : Buffers → Channel → Pointer → Memory → Bool → Deed
call_deed m c tp o two =
    deed [] (jumped m (grown c o 3) (after_pair tp o) two) (pointer_to (effective m c o tp) c.tp)
