-- `Moving::second_from` meets its contract.
-- Assumes nothing.
use Rattle.std.proofs.Common.{◌∙◌}
use Rattle.transfer_rules.specs.Sides.{second_address}
use Rattle.transfer.proofs.FetchLaws.{source-is, from-word}
use Rattle.transfer.proofs.moving.Moving.second_from.Goals as goal

pub returns : goal.returns
unfolding second_address
returns c = let a = c.args.self in c.second_by.ensures ∙ rw (from-word a.channel a.setup a.said, source-is a.channel a.setup a.said)
