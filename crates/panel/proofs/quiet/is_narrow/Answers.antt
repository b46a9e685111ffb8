-- `quiet::is_narrow` meets its contract.
-- Assumes nothing.
use Rattle.panel.specs.Bursts.{is_narrow}
use Rattle.panel.proofs.RowLaws.{none-held}
use Rattle.panel.proofs.quiet.is_narrow.Goals as goal

pub returns : goal.returns
unfolding is_narrow
returns c = rw (c.source_wide.ensures, c.destination_wide.ensures, none-held c.args.c.held c.is_none.result c.is_none.ensures, c.sides_fit.ensures)
