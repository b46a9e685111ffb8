-- `sweep::ranges_fit` meets its contract: its three tests are those of the definition, of what the transfer has left.
-- Assumes nothing.
use Rattle.sweep_rules.specs.Sweep.{ranges_fit}
use Rattle.sweep.proofs.ranges_fit.Goals as goal

pub returns : goal.returns
unfolding ranges_fit
returns c = simp (c.ranges_apart.ensures, c.range_lent-2.ensures, c.range_lent.ensures, c.remainder_of-rest.ensures.0)
