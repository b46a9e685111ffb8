-- `script::line_end` meets its contract.
-- Assumes nothing.
use Rattle.script.proofs.line_end.Goals as goal

pub returns : goal.returns
returns c = record { value = c.first_same.ensures.value; lower_bound = (c.first_same.ensures.lower_bound.0, c.first_same.ensures.lower_bound.1 c.requires) }
