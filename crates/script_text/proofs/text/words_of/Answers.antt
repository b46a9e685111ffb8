-- `script_text::text::words_of` meets its contract.
-- Assumes nothing.
use Rattle.script_text.specs.Text.{words_of}
use Rattle.script_text.proofs.text.words_of.Goals as goal

pub returns : goal.returns
unfolding words_of
returns c = simp (c.word_at-fifth.ensures.value, c.word_at-fourth.ensures.value, c.word_at-third.ensures.value, c.word_at-second.ensures.value, c.word_at-first.ensures.value)
