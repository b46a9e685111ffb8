-- `transfer::sides/plan` meets its contract.
-- Assumes nothing.
use borrow.Author.Rules.{rules}
use Rattle.transfer_rules.specs.Sides.{source, destination, two_move, stored_singly}
use Rattle.transfer.specs.Setups.{setup_of}
use Rattle.transfer.proofs.sides.plan.Goals as goal

pub returns : goal.returns
unfolding setup_of source destination two_move stored_singly
returns c = simp (← c.word-fromWord.ensures, ← c.word-intoWord.ensures, ← c.destination_wide.ensures, ← c.chosen-2.ensures, ← c.source_wide.ensures, ← c.chosen.ensures)
