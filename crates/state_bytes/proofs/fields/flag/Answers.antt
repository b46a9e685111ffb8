-- `state_bytes::fields::flag` meets its contract.
-- Assumes nothing.
use Rattle.state_rules.specs.Fields.{flag_in}
use Rattle.state_bytes.proofs.fields.flag.Goals as goal

pub returns : goal.returns
unfolding flag_in
returns c = rw c.byte.ensures
