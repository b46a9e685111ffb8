-- `decode::reads::read` meets its contract: the first digit of a cell chooses the form, and its row is the one that the arm reads.
-- Assumes nothing.
use borrow.Author.Tests.{ne_eqb}
use mathlib.Core.Path.{refl, sym, ◌∙◌}
use Prim.Native.Nat.{◌%◌}
use Rattle.instruction_rules.specs.Reading.{lookup}
use Rattle.decode.specs.Cells.{form_rows}
use Rattle.instruction_rules.proofs.TableLaws.{alone}
use Rattle.decode.proofs.CellLaws.{by_form, no-form}
use Rattle.decode.proofs.reads.read.Goals as goal

pub returns-in-0 : goal.returns-in-0
unfolding lookup form_rows
returns-in-0 c =
    let a = c.args in
    sym (by_form a.p a.cell 0 c.in-0.is)

pub returns-then-digit-eq0 : goal.returns-then-digit-eq0
unfolding form_rows
returns-then-digit-eq0 c =
    let a = c.args in
    c.control.ensures ∙ sym (by_form a.p a.cell 1 c.in-1.is ∙ rw c.if-digit-eq0.true)

pub returns-else-digit-eq0 : goal.returns-else-digit-eq0
unfolding form_rows
returns-else-digit-eq0 c =
    let a = c.args in
    c.halt.ensures ∙ sym (by_form a.p a.cell 1 c.in-1.is ∙ rw (ne_eqb (a.cell % 16) 0 c.if-digit-eq0.false) (alone _ a.p refl))

pub returns-in-2 : goal.returns-in-2
unfolding form_rows
returns-in-2 c =
    let a = c.args in
    (rw c.work.ensures at c.register_immediate.ensures)
    ∙ sym (by_form a.p a.cell 2 c.in-2.is ∙ alone _ a.p refl)

pub returns-in-3 : goal.returns-in-3
unfolding form_rows
returns-in-3 c =
    let a = c.args in
    (rw c.single.ensures at c.register.ensures)
    ∙ sym (by_form a.p a.cell 3 c.in-3.is ∙ alone _ a.p refl)

pub returns-in-4 : goal.returns-in-4
unfolding form_rows
returns-in-4 c =
    let a = c.args in
    c.jump_register.ensures
    ∙ sym (by_form a.p a.cell 4 c.in-4.is ∙ alone _ a.p refl)

pub returns-in-5 : goal.returns-in-5
unfolding form_rows
returns-in-5 c =
    let a = c.args in
    (rw (c.work-in-5.ensures, c.operand-m.ensures) at c.memory_immediate.ensures)
    ∙ sym (by_form a.p a.cell 5 c.in-5.is ∙ alone _ a.p refl)

pub returns-in-6 : goal.returns-in-6
unfolding form_rows
returns-in-6 c =
    let a = c.args in
    (rw (c.work-in-6.ensures, c.operand-m.ensures) at c.register_memory.ensures)
    ∙ sym (by_form a.p a.cell 6 c.in-6.is ∙ alone _ a.p refl)

pub returns-in-7 : goal.returns-in-7
unfolding form_rows
returns-in-7 c =
    let a = c.args in
    (rw (c.work-in-7.ensures, c.operand-m.ensures) at c.memory_register.ensures)
    ∙ sym (by_form a.p a.cell 7 c.in-7.is ∙ alone _ a.p refl)

pub returns-in-8 : goal.returns-in-8
unfolding form_rows
returns-in-8 c =
    let a = c.args in
    (rw (c.single-in-8.ensures, c.operand-m.ensures) at c.memory_alone.ensures)
    ∙ sym (by_form a.p a.cell 8 c.in-8.is ∙ alone _ a.p refl)

pub returns-in-9 : goal.returns-in-9
unfolding form_rows
returns-in-9 c =
    let a = c.args in
    (rw (c.pointer.ensures, c.operand-m.ensures) at c.pointer_memory.ensures)
    ∙ sym (by_form a.p a.cell 9 c.in-9.is ∙ alone _ a.p refl)

pub returns-in-10 : goal.returns-in-10
unfolding form_rows
returns-in-10 c =
    let a = c.args in
    (rw c.operand-m.ensures at c.jump_memory.ensures)
    ∙ sym (by_form a.p a.cell 10 c.in-10.is ∙ alone _ a.p refl)

pub returns-in-11 : goal.returns-in-11
unfolding form_rows
returns-in-11 c =
    let a = c.args in
    (rw c.operand-m.ensures at c.jump_masked.ensures)
    ∙ sym (by_form a.p a.cell 11 c.in-11.is ∙ alone _ a.p refl)

pub returns-in-12 : goal.returns-in-12
unfolding form_rows
returns-in-12 c =
    let a = c.args in
    (rw c.operand-m.ensures at c.jump_bit.ensures)
    ∙ sym (by_form a.p a.cell 12 c.in-12.is ∙ alone _ a.p refl)

pub returns-in-13 : goal.returns-in-13
unfolding form_rows
returns-in-13 c =
    let a = c.args in
    (rw c.operand-m.ensures at c.bit.ensures)
    ∙ sym (by_form a.p a.cell 13 c.in-13.is ∙ alone _ a.p refl)

pub returns-then-digit-eq0-2 : goal.returns-then-digit-eq0-2
unfolding form_rows
returns-then-digit-eq0-2 c =
    let a = c.args in
    (rw c.operand-m.ensures at c.call.ensures)
    ∙ sym (by_form a.p a.cell 14 c.in-14.is ∙ rw c.if-digit-eq0-2.true (alone _ a.p refl))

pub returns-else-digit-eq0-2 : goal.returns-else-digit-eq0-2
unfolding form_rows
returns-else-digit-eq0-2 c =
    let a = c.args in
    (rw c.operand-m.ensures at c.tsl.ensures)
    ∙ sym (by_form a.p a.cell 14 c.in-14.is ∙ rw (ne_eqb (a.cell % 16) 0 c.if-digit-eq0-2.false) (alone _ a.p refl))

pub returns-then-digit-eq0-3 : goal.returns-then-digit-eq0-3
unfolding form_rows
returns-then-digit-eq0-3 c =
    let a = c.args in
    c.lpdi.ensures
    ∙ sym (by_form a.p a.cell 15 c.in-15.is ∙ rw c.if-digit-eq0-3.true (alone _ a.p refl))

pub returns-else-digit-eq0-3 : goal.returns-else-digit-eq0-3
unfolding form_rows
returns-else-digit-eq0-3 c =
    let a = c.args in
    (rw c.operand-m.ensures at c.mov_memory.ensures)
    ∙ sym (by_form a.p a.cell 15 c.in-15.is ∙ rw (ne_eqb (a.cell % 16) 0 c.if-digit-eq0-3.false) (alone _ a.p refl))

pub returns-in_default : goal.returns-in_default
returns-in_default c =
    let a = c.args in
    sym (no-form a.p a.cell c.in_default.in_default-own.rest)
