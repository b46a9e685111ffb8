-- `rows::stood` meets its contract.
-- Assumes nothing.
use Rattle.panel.specs.Bursts.{carried_as}
use Rattle.panel.proofs.rows.stood.Goals as goal

pub returns : goal.returns
unfolding carried_as
returns c = rw (c.holds.ensures, c.placed.ensures)
