-- `execute::after` meets its contract.
-- Assumes nothing.
use Rattle.ground_rules.specs.Updates.{renewed}
use Rattle.execute.specs.Effects.{channel_worked}
use Rattle.execute.proofs.after.Goals as goal

pub returns : goal.returns
unfolding channel_worked renewed
returns c = simp c.requires
