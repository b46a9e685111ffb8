-- `execute::operands::work` meets its contract.
-- Assumes nothing.
use Rattle.instruction_rules.specs.Operands.{work_of}
use Rattle.execute.proofs.operands.work.Goals as goal

pub returns-in-Mov : goal.returns-in-Mov
unfolding work_of
returns-in-Mov c = simp c.in-Mov.is

pub returns-in-Add : goal.returns-in-Add
unfolding work_of
returns-in-Add c = simp (c.sum20.ensures, c.in-Add.is)

pub returns-in-Or : goal.returns-in-Or
unfolding work_of
returns-in-Or c = simp c.in-Or.is

pub returns-in-And : goal.returns-in-And
unfolding work_of
returns-in-And c = simp c.in-And.is

pub returns-in-Not : goal.returns-in-Not
unfolding work_of
returns-in-Not c = simp c.in-Not.is
