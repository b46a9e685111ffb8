-- `Moving::second_into` meets its contract.
-- Assumes nothing.
use Rattle.std.proofs.Common.{◌∙◌}
use Rattle.transfer_rules.specs.Sides.{second_address}
use Rattle.transfer.proofs.FetchLaws.{destination-is, into-word}
use Rattle.transfer.proofs.moving.Moving.second_into.Goals as goal

pub returns : goal.returns
unfolding second_address
returns c = let a = c.args.self in c.second_by.ensures ∙ rw (into-word a.channel a.setup a.said, destination-is a.channel a.setup a.said)
