-- `transfer::ends/code_if` meets its contract.
-- Assumes nothing.
use Rattle.transfer_rules.specs.Ends.{code_if}
use Rattle.transfer.proofs.ends.code_if.Goals as goal

pub returns-then-came : goal.returns-then-came
unfolding code_if
returns-then-came c = simp c.if-came.true

pub returns-else-came : goal.returns-else-came
unfolding code_if
returns-else-came c = simp c.if-came.false
