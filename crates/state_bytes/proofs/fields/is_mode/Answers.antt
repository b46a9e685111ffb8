-- `state_bytes::fields::is_mode` meets its contract.
-- Assumes nothing.
use Rattle.state_rules.specs.Fields.{is_mode}
use Rattle.state_bytes.proofs.fields.is_mode.Goals as goal

pub returns : goal.returns
unfolding is_mode
returns c = rw c.byte.ensures
