-- `Moving::finish` meets its contract.
-- Assumes nothing.
use Rattle.transfer.specs.Setups.{setup_of}
use Rattle.transfer_rules.specs.Stores.{end_code}
use Rattle.transfer.proofs.moving.Moving.finish.Goals as goal

pub returns : goal.returns
unfolding end_code setup_of
returns c = rw (c.end_from.ensures, c.compare-compared.ensures, c.count_down-bc.ensures, c.one_or_two.ensures, c.args.self.said)
