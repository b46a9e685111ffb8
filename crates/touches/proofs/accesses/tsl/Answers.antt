-- `touches::accesses::tsl` meets its contract.
-- Assumes nothing.
use borrow.Author.Tests.{eq-eqb, ne_eqb}
use Rattle.touches.proofs.accesses.tsl.Goals as goal

pub returns-then-byte-eq0 : goal.returns-then-byte-eq0
returns-then-byte-eq0 c = simp (c.at_one.ensures, ← c.byte.ensures, ← c.effective-p.ensures, eq-eqb _ _ c.if-byte-eq0.true)

pub returns-else-byte-eq0 : goal.returns-else-byte-eq0
returns-else-byte-eq0 c = simp (c.at_one-else-byte-eq0.ensures, ← c.byte.ensures, ← c.effective-p.ensures, ne_eqb _ _ c.if-byte-eq0.false)
