-- `step::external_step` meets its contract.
-- Assumes nothing.
use Rattle.step.proofs.external_step.Goals as goal

pub returns : goal.returns
returns c = simp (c.done.ensures, c.external_end.ensures, c.channel.ensures)
