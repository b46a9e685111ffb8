-- `touches::accesses::operand` meets its contract.
-- Assumes nothing.
use Rattle.touches.proofs.accesses.operand.Goals as goal

pub returns : goal.returns
returns c = simp (c.at_one.ensures, c.effective.ensures)
