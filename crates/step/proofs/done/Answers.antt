-- `step::done` meets its contract.
-- Assumes nothing.
use Rattle.step.proofs.done.Goals as goal

pub returns : goal.returns
returns c = simp (c.number.ensures, c.with_last.ensures, c.with_channel.ensures)
