-- `notation::forms::register_name` meets its contract.
-- Assumes nothing.
use mathlib.Core.Path.{sym}
use Rattle.notation.specs.Writing.{held_by, held_in}
use Rattle.listing_rules.specs.Forms.{register_name}
use Rattle.listing_rules.proofs.FormLaws.{past-seven}
use Rattle.notation.proofs.forms.register_name.Goals as goal

pub returns-in-0 : goal.returns-in-0
unfolding register_name held_in held_by
returns-in-0 c = simp c.in-0.is

pub returns-in-1 : goal.returns-in-1
unfolding register_name held_in held_by
returns-in-1 c = simp c.in-1.is

pub returns-in-2 : goal.returns-in-2
unfolding register_name held_in held_by
returns-in-2 c = simp c.in-2.is

pub returns-in-3 : goal.returns-in-3
unfolding register_name held_in held_by
returns-in-3 c = simp c.in-3.is

pub returns-in-4 : goal.returns-in-4
unfolding register_name held_in held_by
returns-in-4 c = simp c.in-4.is

pub returns-in-5 : goal.returns-in-5
unfolding register_name held_in held_by
returns-in-5 c = simp c.in-5.is

pub returns-in-6 : goal.returns-in-6
unfolding register_name held_in held_by
returns-in-6 c = simp c.in-6.is

pub returns-in_default : goal.returns-in_default
unfolding register_name held_in held_by
returns-in_default c = sym (past-seven _ c.in_default.in_default-own.rest)
