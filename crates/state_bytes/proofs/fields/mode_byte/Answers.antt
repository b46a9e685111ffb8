-- `state_bytes::fields::mode_byte` meets its contract.
-- Assumes nothing.
use Rattle.state_rules.specs.Fields.{mode_byte}
use Rattle.state_bytes.proofs.fields.mode_byte.Goals as goal

pub returns-in-Idle : goal.returns-in-Idle
unfolding mode_byte
returns-in-Idle c = rw c.in-Idle.is

pub returns-in-Running : goal.returns-in-Running
unfolding mode_byte
returns-in-Running c = rw c.in-Running.is

pub returns-in-Suspended : goal.returns-in-Suspended
unfolding mode_byte
returns-in-Suspended c = rw c.in-Suspended.is
