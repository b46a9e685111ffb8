-- `notation::forms::offset` meets its contract.
-- Assumes nothing.
use borrow.Author.Tests.{ne_eqb}
use Rattle.notation.proofs.PieceLaws.{held-zero}
use Rattle.notation.proofs.forms.offset.Goals as goal

pub returns-else-m-eq1 : goal.returns-else-m-eq1
returns-else-m-eq1 c = rw (ne_eqb _ 1 c.if-m-eq1.false) held-zero
