-- `transfer::sides/word` meets its contract.
-- Assumes nothing.
use borrow.Author.Rules.{rules}
use Rattle.transfer_rules.specs.Sides.{word_side}
use Rattle.transfer.proofs.sides.word.Goals as goal

pub returns : goal.returns
unfolding word_side
returns c = simp (← c.bit.ensures)
