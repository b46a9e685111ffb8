-- Instructions whose result goes into a register.
use Rattle.std.specs.Prelude.{Bool, [], ℕ}
use Rattle.ground_rules.specs.Choice.{pick}
use Rattle.ground_rules.specs.Buffers.{Buffers}
use Rattle.ground_rules.specs.Values.{onward, doubleword_at, pointer_at}
use Rattle.ground_rules.specs.declared.Pointer.{Pointer}
use Rattle.ground_rules.specs.declared.Channel.{Channel}
use Rattle.ground_rules.specs.Registers.{register_of, with_register, moved, worked, loaded}
use Rattle.instruction_rules.specs.declared.Memory.{Memory}
use Rattle.instruction_rules.specs.declared.Work.{Work}
use Rattle.instruction_rules.specs.declared.Single.{Single}
use Rattle.instruction_rules.specs.Operands.{bytes_at, size_of, effective, grown, operand_at, work_of, single_of, is_move}
use Rattle.instruction_rules.specs.Changes.{nothing}
use Rattle.instruction_rules.specs.Deeds.{Deed, deed}

-- a register written: MOV and MOVI set the tag of a pointer, other work keeps it (§6.10)
unfoldable pub register_written : Work → Channel → ℕ → ℕ → Channel
register_written work c r v = pick (is_move work) (moved c r v) (worked c r v)

-- ADDI, ORI, ANDI, MOVI R,I: the data stands after the pair
unfoldable pub register_immediate_deed : Buffers → Channel → Pointer → Work → ℕ → Bool → Deed
register_immediate_deed m c tp work r wide =
    deed [] (register_written work c r (work_of work (register_of c r) (operand_at m (onward tp 2) wide))) nothing

-- NOT R, INC R, DEC R
unfoldable pub register_deed : Channel → Single → ℕ → Deed
register_deed c single r = deed [] (worked c r (single_of single (register_of c r))) nothing

-- MOV, ADD, OR, AND, NOT R,M: the register operand is read, then IX grows, then the result is written (§6.8)
unfoldable pub register_memory_deed : Buffers → Channel → Pointer → Work → ℕ → Memory → Deed
register_memory_deed m c tp work r o =
    let at = effective m c o tp in
    deed (bytes_at at (size_of o.wide))
    (register_written work (grown c o (size_of o.wide)) r (work_of work (register_of c r) (operand_at m at o.wide))) nothing

-- LPDI: the doubleword pointer after the pair; the tag becomes 0 (§6.10, §6.13)
unfoldable pub lpdi_deed : Buffers → Channel → Pointer → ℕ → Deed
lpdi_deed m c tp r =
    let at = onward tp 2 in
    deed [] (loaded c r (doubleword_at m at.tag at.address)) nothing

-- LPD P,M: the same from memory
unfoldable pub lpd_deed : Buffers → Channel → Pointer → ℕ → Memory → Deed
lpd_deed m c tp r o =
    let at = effective m c o tp in
    deed (bytes_at at 4) (loaded (grown c o 4) r (doubleword_at m at.tag at.address)) nothing

-- MOVP P,M: a stored pointer, and its tag with it (§6.13)
unfoldable pub movp_load_deed : Buffers → Channel → Pointer → ℕ → Memory → Deed
movp_load_deed m c tp r o =
    let at = effective m c o tp in
    let p = pointer_at m at.tag at.address in
    deed (bytes_at at 3) (with_register (grown c o 3) r p.address p.tag) nothing
