-- `Moving::moved_by` meets its contract.
-- Assumes nothing.
use Rattle.ground_rules.specs.Updates.{with_transfer}
use Rattle.transfer.specs.Setups.{setup_of}
use Rattle.transfer_rules.specs.Stores.{moved_by}
use Rattle.transfer.proofs.moving.Moving.moved_by.Goals as goal

pub returns : goal.returns
unfolding moved_by with_transfer setup_of
returns c = rw (c.chosen-2.ensures, c.chosen.ensures, c.gained-destination.ensures, c.gained-source.ensures, c.args.self.said)
