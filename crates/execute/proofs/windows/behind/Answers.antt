-- `execute::windows::behind` meets its contract.
-- Assumes nothing.
use Rattle.std.proofs.Common.{length, sym, arith, le-leb}
use borrow.Author.Tests.{lt-leb}
use Rattle.execute.specs.Bytes.{behind_end}
use Rattle.execute.proofs.PieceLaws.{near-tests}
use Rattle.execute.proofs.windows.behind.Goals as goal

pub overflow_sub-space : goal.overflow_sub-space
overflow_sub-space c =
    let a = c.args in
    let near = near-tests (length a.space.now) a.most c.if-space-most.true in
    omega (arith, near.1)

pub over-requires : goal.over-requires
over-requires c =
    let a = c.args in
    let near = near-tests (length a.space.now) a.most c.if-space-most.true in
    (omega (arith, near.1), omega (arith, near.0))

pub returns-then-space-most : goal.returns-then-space-most
unfolding behind_end
returns-then-space-most c = rw (c.if-space-most.true, sym c.eight_of.ensures) c.over.ensures

pub returns-then-most-space : goal.returns-then-most-space
unfolding behind_end
returns-then-most-space c = rw (c.if-space-most.false, le-leb _ _ c.if-most-space.true) c.eight_of-then-most-space.ensures

pub returns-else-most-space : goal.returns-else-most-space
unfolding behind_end
returns-else-most-space c = rw (c.if-space-most.false, lt-leb _ _ c.if-most-space.false)
