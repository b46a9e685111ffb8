-- `notation::mnemonics::single_stem` meets its contract.
-- Assumes nothing.
use Rattle.notation.specs.Writing.{held_by, held_in}
use Rattle.notation.proofs.mnemonics.single_stem.Goals as goal

pub returns-in-Not : goal.returns-in-Not
unfolding held_in held_by
returns-in-Not c = simp (c.in-Not.is, c.in-Not.in-Not-own.keys1)

pub returns-in-Inc : goal.returns-in-Inc
unfolding held_in held_by
returns-in-Inc c = simp (c.in-Inc.is, c.in-Inc.in-Inc-own.keys2)

pub returns-in-Dec : goal.returns-in-Dec
unfolding held_in held_by
returns-in-Dec c = simp (c.in-Dec.is, c.in-Dec.in-Dec-own.keys3)
