-- `touch_calls::whole` meets its contract.
-- Assumes nothing.
use Rattle.touch_calls.proofs.whole.Goals as goal

pub returns : goal.returns
returns c = rw (c.answer.ensures, c.kind_number.ensures)
