-- `state_bytes::layout::put_changed` meets its contract.
-- Assumes nothing.
use mathlib.Core.Path.{◌∙◌}
use Rattle.state_bytes.proofs.layout.put_changed.Goals as goal

pub returns-then-not-same : goal.returns-then-not-same
returns-then-not-same c = rw (c.if-not-same.true) (c.put_fields.ensures ∙ rw c.split.ensures)

pub returns-else-not-same : goal.returns-else-not-same
returns-else-not-same c = rw (c.if-not-same.false)
