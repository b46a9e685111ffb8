-- `script_text::text::span_at` meets its contract.
-- Assumes nothing.
use Rattle.script_text.specs.Text.{span_at}
use Rattle.script_text.proofs.text.span_at.Goals as goal

pub returns : goal.returns
unfolding span_at
returns c = record { value = simp (c.first_same-to.ensures.value, c.first_other-from.ensures.value); from_le_to = (c.first_same-to.ensures.lower_bound.0, c.first_same-to.ensures.lower_bound.1 c.first_other-from.ensures.lower_bound.1) }
