-- `sweep::plain_fields` meets its contract: its tests are those of the definition.
-- Assumes nothing.
use mathlib.Core.Path.{refl}
use Rattle.sweep_rules.specs.Sweep.{plain_fields}
use Rattle.sweep.proofs.plain_fields.Goals as goal

pub returns : goal.returns
unfolding plain_fields
returns c = refl
