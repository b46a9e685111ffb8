-- `panel::quiet::sides_fit` meets its contract.
-- Assumes nothing.
use mathlib.Core.Path.{refl}
use Rattle.panel.specs.Bursts.{sides_fit}
use Rattle.panel.proofs.quiet.sides_fit.Goals as goal

pub returns : goal.returns
unfolding sides_fit
returns c = refl
