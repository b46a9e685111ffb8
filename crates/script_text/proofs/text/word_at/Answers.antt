-- `script_text::text::word_at` meets its contract.
-- Assumes nothing.
use Rattle.script_text.specs.Text.{line_word_at}
use Rattle.script_text.proofs.text.word_at.Goals as goal

pub returns : goal.returns
unfolding line_word_at
returns c = record { value = simp (c.is_pairs.ensures, c.number.ensures, c.name.ensures, c.span_at-span.ensures.value); to_in_bounds = c.span_at-span.ensures.from_le_to.1 }
