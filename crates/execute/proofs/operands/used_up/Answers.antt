-- `execute::operands::used_up` meets its contract.
-- Assumes nothing.
use Rattle.instruction_rules.specs.Marks.{used_up}
use Rattle.execute.proofs.operands.used_up.Goals as goal

pub returns-then-armed : goal.returns-then-armed
unfolding used_up
returns-then-armed c = simp (c.with.ensures, c.if-armed.true)

pub returns-else-armed : goal.returns-else-armed
unfolding used_up
returns-else-armed c = simp c.if-armed.false
