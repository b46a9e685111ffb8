-- `operands::effective` meets its contract.
-- Assumes nothing.
use Rattle.instruction_rules.specs.Operands.{effective, indexed}
use Rattle.execute.proofs.operands.effective.Goals as goal

pub returns : goal.returns
unfolding effective indexed
returns c = simp (c.onward-2.ensures, c.added.ensures, c.base.ensures, c.byte-offset.ensures, c.onward.ensures)
