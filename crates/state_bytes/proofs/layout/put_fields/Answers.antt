-- `state_bytes::layout::put_fields` meets its contract.
-- Assumes nothing.
use mathlib.Core.Path.{◌∙◌}
use Rattle.state_rules.proofs.GroupLaws.{fields-put}
use Rattle.state_bytes.proofs.layout.put_fields.Goals as goal

pub returns : goal.returns
returns c = c.put_ends.ensures ∙ rw c.put_sides.ensures (fields-put _ _ _)
