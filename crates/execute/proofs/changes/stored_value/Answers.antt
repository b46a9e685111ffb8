-- `execute::changes::stored_value` meets its contract.
-- Assumes nothing.
use Rattle.instruction_rules.specs.Changes.{stored_value}
use Rattle.execute.proofs.changes.stored_value.Goals as goal

pub returns : goal.returns
unfolding stored_value
returns c = simp (c.stored_high-high.ensures, c.stored_middle-middle.ensures, c.stored_low-low.ensures)
