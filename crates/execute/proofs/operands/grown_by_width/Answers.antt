-- `operands::grown_by_width` meets its contract.
-- Assumes nothing.
use Rattle.execute.proofs.operands.grown_by_width.Goals as goal

pub returns : goal.returns
returns c = simp (c.grown_ix.ensures, c.size.ensures)
