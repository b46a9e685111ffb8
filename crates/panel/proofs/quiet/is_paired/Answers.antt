-- `quiet::is_paired` meets its contract.
-- Assumes nothing.
use Rattle.panel.specs.Bursts.{is_paired}
use Rattle.panel.proofs.RowLaws.{none-held}
use Rattle.panel.proofs.quiet.is_paired.Goals as goal

pub returns : goal.returns
unfolding is_paired
returns c = rw (none-held c.args.c.held c.is_none.result c.is_none.ensures, c.sides_fit.ensures)
