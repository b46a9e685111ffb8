-- `attention::effects::save` meets its contract.
-- Assumes nothing.
use mathlib.Core.Path.{◌∙◌}
use Rattle.ground_rules.proofs.PlaceLaws.{store-reduced}
use Rattle.attention_rules.specs.Effects.{saved}
use Rattle.attention.specs.Writes.{saved_by}
use Rattle.attention.proofs.effects.save.Goals as goal

pub returns-in-Some : goal.returns-in-Some
unfolding saved saved_by
returns-in-Some c = c.store_byte.ensures ∙ rw (c.in-Some.is, c.sum20.ensures, c.store_pointer.ensures, store-reduced)

pub returns-in_default : goal.returns-in_default
unfolding saved_by
returns-in_default c = rw c.in_default.is
