-- `notation::forms::after_offset` meets its contract.
-- Assumes nothing.
use native.Mathlib.Omega.{arith}
use Rattle.listing_rules.specs.Forms.{after_offset}
use Rattle.listing_rules.proofs.FormLaws.{offset-short}
use Rattle.notation.proofs.forms.after_offset.Goals as goal

pub overflow_add-result : goal.overflow_add-result
overflow_add-result c = omega (arith, offset-short c.args.m, c.offset_length.ensures)

pub returns : goal.returns
unfolding after_offset
returns c = simp c.offset_length.ensures
