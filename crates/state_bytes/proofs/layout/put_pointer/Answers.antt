-- `state_bytes::layout::put_pointer` meets its contract.
-- Assumes nothing.
use mathlib.Core.Path.{◌∙◌}
use Rattle.state_rules.specs.Layout.{pointer_bytes}
use Rattle.state_rules.proofs.LengthLaws.{length-little}
use Rattle.state_rules.proofs.SetsLaws.{sets-append}
use Rattle.state_bytes.proofs.layout.put_pointer.Goals as goal

pub returns : goal.returns
unfolding pointer_bytes
returns c = c.put.ensures ∙ rw (c.flag_byte.ensures, c.put_long.ensures) (simp (sets-append, length-little))
