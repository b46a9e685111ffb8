-- `state_bytes::layout::put_held` meets its contract.
-- Assumes nothing.
use mathlib.Core.Path.{◌∙◌}
use Rattle.state_rules.specs.Layout.{held_bytes}
use Rattle.state_bytes.proofs.layout.put_held.Goals as goal

pub returns : goal.returns
unfolding held_bytes
returns c = c.put_word.ensures ∙ rw c.number.ensures
