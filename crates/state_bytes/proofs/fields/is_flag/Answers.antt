-- `state_bytes::fields::is_flag` meets its contract.
-- Assumes nothing.
use Rattle.state_rules.specs.Fields.{is_flag}
use Rattle.state_bytes.proofs.fields.is_flag.Goals as goal

pub returns : goal.returns
unfolding is_flag
returns c = rw c.byte.ensures
