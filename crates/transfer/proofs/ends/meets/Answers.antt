-- `transfer::ends/meets` meets its contract.
-- Assumes nothing.
use borrow.Author.Rules.{rules}
use Rattle.transfer_rules.specs.Ends.{meets_tmc}
use Rattle.transfer.proofs.ends.meets.Goals as goal

pub returns-then-bit : goal.returns-then-bit
unfolding meets_tmc
returns-then-bit c = simp (c.if-bit.true, ← c.bit.ensures, ← c.matches-found.ensures)

pub returns-else-bit : goal.returns-else-bit
unfolding meets_tmc
returns-else-bit c = simp (c.if-bit.false, ← c.bit.ensures, ← c.matches-found.ensures)
