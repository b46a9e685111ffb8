-- `Moving::bad_mode` meets its contract.
-- Assumes nothing.
use Rattle.transfer.specs.Setups.{setup_of}
use Rattle.transfer_rules.specs.Steps.{bad_mode}
use Rattle.transfer.proofs.moving.Moving.bad_mode.Goals as goal

pub returns : goal.returns
unfolding bad_mode setup_of
returns c = rw c.args.self.said
