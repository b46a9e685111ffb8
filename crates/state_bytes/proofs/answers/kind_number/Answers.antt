-- `state_bytes::answers::kind_number` meets its contract.
-- Assumes nothing.
use Rattle.state_rules.specs.Calls.{kind_number}
use Rattle.state_bytes.proofs.answers.kind_number.Goals as goal

pub returns-in-Nothing : goal.returns-in-Nothing
unfolding kind_number
returns-in-Nothing c = rw c.in-Nothing.is

pub returns-in-Instruction : goal.returns-in-Instruction
unfolding kind_number
returns-in-Instruction c = rw c.in-Instruction.is

pub returns-in-Transfer : goal.returns-in-Transfer
unfolding kind_number
returns-in-Transfer c = rw c.in-Transfer.is

pub returns-in-External : goal.returns-in-External
unfolding kind_number
returns-in-External c = rw c.in-External.is
