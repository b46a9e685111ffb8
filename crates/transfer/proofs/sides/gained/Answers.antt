-- `transfer::sides/gained` meets its contract.
-- Assumes nothing.
use borrow.Author.Rules.{rules}
use Rattle.transfer_rules.specs.Sides.{gained}
use Rattle.transfer.proofs.sides.gained.Goals as goal

pub returns-then-moves : goal.returns-then-moves
unfolding gained
returns-then-moves c = rw (c.onward.ensures, c.if-moves.true)

pub returns-else-moves : goal.returns-else-moves
unfolding gained
returns-else-moves c = rw c.if-moves.false
