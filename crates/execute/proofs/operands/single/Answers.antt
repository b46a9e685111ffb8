-- `execute::operands::single` meets its contract.
-- Assumes nothing.
use Rattle.instruction_rules.specs.Operands.{single_of}
use Rattle.execute.proofs.operands.single.Goals as goal

pub returns-in-Not : goal.returns-in-Not
unfolding single_of
returns-in-Not c = simp c.in-Not.is

pub returns-in-Inc : goal.returns-in-Inc
unfolding single_of
returns-in-Inc c = simp (c.sum20.ensures, c.in-Inc.is)

pub returns-in-Dec : goal.returns-in-Dec
unfolding single_of
returns-in-Dec c = simp (c.sum20-in-Dec.ensures, c.in-Dec.is)
