-- `notation::forms::operand` meets its contract.
-- Assumes nothing.
use mathlib.Core.Path.{◌∙◌}
use Rattle.notation.specs.Writing.{held_by, held_in, held_in4}
use Rattle.listing_rules.specs.Forms.{filled, spelled, following}
use Rattle.notation.proofs.PieceLaws.{four, led, held-zero}
use Rattle.notation.proofs.forms.operand.Goals as goal

pub returns-in-Empty : goal.returns-in-Empty
unfolding filled spelled following held_in4 held_in held_by
returns-in-Empty c = rw c.in-Empty.is

pub returns-in-Name : goal.returns-in-Name
unfolding filled spelled following
returns-in-Name c = led _ c.requires c.register_name.ensures held-zero held-zero ∙ rw c.in-Name.is

pub returns-in-Place : goal.returns-in-Place
unfolding filled spelled following
returns-in-Place c = four _ c.requires c.base_name.ensures c.mode_text.ensures c.offset.ensures ∙ rw c.in-Place.is

pub returns-in-Number : goal.returns-in-Number
unfolding filled spelled following
returns-in-Number c = led _ c.requires c.number.ensures held-zero held-zero ∙ rw c.in-Number.is

pub returns-in-Target : goal.returns-in-Target
unfolding filled spelled following
returns-in-Target c = led _ c.requires c.target.ensures held-zero held-zero ∙ rw c.in-Target.is

pub returns-in-Digit : goal.returns-in-Digit
unfolding filled spelled following
returns-in-Digit c = led _ c.requires c.digit.ensures held-zero held-zero ∙ rw c.in-Digit.is
