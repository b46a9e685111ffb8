-- `notation::forms::mode_text` meets its contract.
-- Assumes nothing.
use mathlib.Core.Path.{sym}
use Rattle.listing_rules.specs.Characters.{ascii}
use Rattle.notation.specs.Writing.{held_by, held_in}
use Rattle.listing_rules.specs.Forms.{mode_text}
use Rattle.listing_rules.proofs.FormLaws.{past_three}
use Rattle.notation.proofs.forms.mode_text.Goals as goal

pub returns-in-0 : goal.returns-in-0
unfolding mode_text held_in held_by
returns-in-0 c = simp c.in-0.is

pub returns-in-1 : goal.returns-in-1
unfolding mode_text held_in held_by
returns-in-1 c = simp c.in-1.is

pub returns-in-2 : goal.returns-in-2
unfolding mode_text held_in held_by
returns-in-2 c = simp c.in-2.is

pub returns-in_default : goal.returns-in_default
unfolding mode_text held_in held_by
returns-in_default c = sym (past_three (ascii "]") (ascii "].") (ascii "+IX]") (ascii "+IX+]") _ c.in_default.in_default-own.rest)
