-- `touches::by` meets its contract.
-- Assumes nothing.
use borrow.Author.Tests.{eq-eqb, ne_eqb}
use Rattle.touches.proofs.by.Goals as goal

pub returns-then-o-ne0 : goal.returns-then-o-ne0
returns-then-o-ne0 c = rw (ne_eqb _ _ c.if-o-ne0.true)

pub returns : goal.returns
returns c = rw (c.number.ensures, eq-eqb _ _ c.if-o-ne0.false)
