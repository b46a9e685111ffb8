-- `transfer::sides/second_by` meets its contract.
-- Assumes nothing.
use borrow.Author.Rules.{rules}
use Rattle.transfer.proofs.sides.second_by.Goals as goal

pub returns-then-whole-s : goal.returns-then-whole-s
returns-then-whole-s c = simp (← c.sum20.ensures, c.if-whole-s.true)

pub returns-else-whole-s : goal.returns-else-whole-s
returns-else-whole-s c = simp c.if-whole-s.false
