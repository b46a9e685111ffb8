-- `execute::memories::worked_back` meets its contract.
-- Assumes nothing.
use Rattle.execute.proofs.memories.worked_back.Goals as goal

pub returns : goal.returns
returns c = simp (c.stores.ensures, c.size.ensures, c.read_first.ensures, c.grown_by_width.ensures, c.work-w.ensures, c.operand_in.ensures)
