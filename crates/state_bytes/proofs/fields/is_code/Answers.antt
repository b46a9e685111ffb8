-- `state_bytes::fields::is_code` meets its contract.
-- Assumes nothing.
use Rattle.state_rules.specs.Fields.{is_code}
use Rattle.state_bytes.proofs.fields.is_code.Goals as goal

pub returns : goal.returns
unfolding is_code
returns c = rw c.byte.ensures
