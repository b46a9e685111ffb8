-- `sweep::finished` meets its contract: register by register.
-- Assumes nothing.
use Rattle.ground_rules.specs.Values.{onward}
use Rattle.ground_rules.specs.Updates.{with_transfer}
use Rattle.block_rules.specs.Stages.{finished}
use Rattle.sweep.proofs.finished.Goals as goal

pub returns : goal.returns
unfolding finished with_transfer onward
returns c = simp (c.holds.ensures, c.with.ensures, c.onward-3.ensures, c.offset.ensures, c.onward-2.ensures, c.onward.ensures)
