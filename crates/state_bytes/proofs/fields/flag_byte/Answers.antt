-- `state_bytes::fields::flag_byte` meets its contract.
-- Assumes nothing.
use Rattle.state_rules.specs.Fields.{flag_of}
use Rattle.state_bytes.proofs.fields.flag_byte.Goals as goal

pub returns-then-on : goal.returns-then-on
unfolding flag_of
returns-then-on c = rw c.if-on.true

pub returns-else-on : goal.returns-else-on
unfolding flag_of
returns-else-on c = rw c.if-on.false
