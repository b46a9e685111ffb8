-- `script_text::text::call_of` meets its contract.
-- Assumes nothing.
use borrow.Author.Tests.{eq-eqb, ne_eqb}
use mathlib.Core.Path.{sym, ◌∙◌}
use Rattle.script_text.specs.Calls.{call_of}
use Rattle.script_text.proofs.text.call_of.Goals as goal

pub returns-then-first_byte-eq35 : goal.returns-then-first_byte-eq35
unfolding call_of
returns-then-first_byte-eq35 c = simp (eq-eqb _ _ (sym c.first_byte.ensures ∙ c.if-first_byte-eq35.true))

pub returns : goal.returns
unfolding call_of
returns c = simp (c.unwrap_or.ensures, c.call_from.ensures, c.words_of.ensures, ne_eqb _ _ (λ z. c.if-first_byte-eq35.false (c.first_byte.ensures ∙ z)))
