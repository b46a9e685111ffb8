-- `rows::placed` meets its contract.
-- Assumes nothing.
use Rattle.ground_rules.specs.Updates.{with_transfer}
use Rattle.panel.specs.Bursts.{placed_at}
use Rattle.panel.proofs.rows.placed.Goals as goal

pub returns : goal.returns
unfolding placed_at with_transfer
returns c = rw (c.chosen.ensures, c.chosen-2.ensures)
