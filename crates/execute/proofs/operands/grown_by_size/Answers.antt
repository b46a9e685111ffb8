-- `operands::grown_by_size` meets its contract.
-- Assumes nothing.
use Rattle.execute.proofs.operands.grown_by_size.Goals as goal

pub returns : goal.returns
returns c = simp (c.grown.ensures, c.size.ensures)
