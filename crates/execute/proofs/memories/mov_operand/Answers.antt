-- `memories::mov_operand` meets its contract.
-- Assumes nothing.
use Rattle.std.proofs.Common.{sym, ap, ◌∙◌, ℕ}
use borrow.Author.Tests.{not-true, not-false}
use Rattle.ground_rules.specs.Buffers.{buffers}
use Rattle.ground_rules.specs.Places.{span, all_touchable}
use Rattle.execute.proofs.MemoryWorks.{does-mov-operand, refuses-mov-operand}
use Rattle.execute.proofs.memories.mov_operand.Goals as goal

pub returns-then-not-span_touchable : goal.returns-then-not-span_touchable
returns-then-not-span_touchable c known e =
    let a = c.args in
    let m = buffers a.sys.now a.io.now in
    refuses-mov-operand m a.c a.o a.q a.f (ap (λ (n : ℕ). all_touchable m (span a.f.code a.f.tp n)) (sym c.offset_length-n.ensures) ∙ sym c.span_touchable.ensures ∙ not-true _ c.if-not-span_touchable.true-raw) known e

pub returns : goal.returns
returns c known e =
    let a = c.args in
    let m = buffers a.sys.now a.io.now in
    let touched = ap (λ (n : ℕ). all_touchable m (span a.f.code a.f.tp n)) (sym c.offset_length-n.ensures) ∙ sym c.span_touchable.ensures ∙ not-false _ c.if-not-span_touchable.false-raw in
    rw (c.past.ensures, c.operand_in.ensures, c.sum20-2.ensures, c.added.ensures, c.grown_by_width.ensures, c.sum20.ensures, c.size-size.ensures, c.offset_length-n.ensures, c.base-base.ensures, c.grown_by_width-ix.ensures)
    (does-mov-operand m a.c a.o a.q a.f touched known e)
