-- `notation::forms::base_name` meets its contract.
-- Assumes nothing.
use mathlib.Core.Path.{sym}
use Rattle.listing_rules.specs.Characters.{ascii}
use Rattle.notation.specs.Writing.{held_by, held_in}
use Rattle.listing_rules.specs.Forms.{base_name}
use Rattle.listing_rules.proofs.FormLaws.{past_three}
use Rattle.notation.proofs.forms.base_name.Goals as goal

pub returns-in-0 : goal.returns-in-0
unfolding base_name held_in held_by
returns-in-0 c = simp c.in-0.is

pub returns-in-1 : goal.returns-in-1
unfolding base_name held_in held_by
returns-in-1 c = simp c.in-1.is

pub returns-in-2 : goal.returns-in-2
unfolding base_name held_in held_by
returns-in-2 c = simp c.in-2.is

pub returns-in_default : goal.returns-in_default
unfolding base_name held_in held_by
returns-in_default c = sym (past_three (ascii "[GA") (ascii "[GB") (ascii "[GC") (ascii "[PP") _ c.in_default.in_default-own.rest)
