-- `script_text::text::fourth_word` meets its contract.
-- Assumes nothing.
use Rattle.script_text.specs.Text.{fourth_span}
use Rattle.script_text.proofs.text.fourth_word.Goals as goal

pub returns : goal.returns
unfolding fourth_span
returns c = record { value = simp (c.span_at.ensures.value, c.span_at-third.ensures.value, c.span_at-second.ensures.value, c.span_at-first.ensures.value); from_le_to = c.span_at.ensures.from_le_to }
