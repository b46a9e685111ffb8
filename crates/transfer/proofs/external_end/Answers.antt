-- `transfer::external_end` meets its contract.
-- Assumes nothing.
use borrow.Author.Rules.{rules}
use Rattle.transfer_rules.specs.Ends.{externally_ended}
use Rattle.transfer.proofs.external_end.Goals as goal

pub returns : goal.returns
unfolding externally_ended
returns c = rw (c.ended.ensures, c.holds.ensures)
