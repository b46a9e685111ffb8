-- `notation::mnemonics::work_stem` meets its contract.
-- Assumes nothing.
use Rattle.notation.specs.Writing.{held_by, held_in}
use Rattle.notation.proofs.mnemonics.work_stem.Goals as goal

pub returns-in-Mov : goal.returns-in-Mov
unfolding held_in held_by
returns-in-Mov c = simp (c.in-Mov.is, c.in-Mov.in-Mov-own.keys1)

pub returns-in-Add : goal.returns-in-Add
unfolding held_in held_by
returns-in-Add c = simp (c.in-Add.is, c.in-Add.in-Add-own.keys2)

pub returns-in-Or : goal.returns-in-Or
unfolding held_in held_by
returns-in-Or c = simp (c.in-Or.is, c.in-Or.in-Or-own.keys3)

pub returns-in-And : goal.returns-in-And
unfolding held_in held_by
returns-in-And c = simp (c.in-And.is, c.in-And.in-And-own.keys4)

pub returns-in-Not : goal.returns-in-Not
unfolding held_in held_by
returns-in-Not c = simp (c.in-Not.is, c.in-Not.in-Not-own.keys5)
