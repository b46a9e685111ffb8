-- `transfer::sides/second` meets its contract.
-- Assumes nothing.
use borrow.Author.Rules.{rules}
use mathlib.Core.Path.{◌∙◌}
use Rattle.transfer_rules.specs.Sides.{second_address}
use Rattle.transfer.proofs.sides.second.Goals as goal

pub returns : goal.returns
unfolding second_address
returns c = c.second_by.ensures ∙ rw c.word.ensures
