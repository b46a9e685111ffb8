-- `execute::findings::value` meets its contract.
-- Assumes nothing.
use Rattle.std.proofs.Common.{ne_eqb}
use Rattle.ground_rules.specs.Registers.{by_rrr, register_of}
use Rattle.ground_rules.specs.Updates.{renewed}
use Rattle.ground_rules.specs.Values.{onward}
use Rattle.instruction_rules.specs.Marks.{past_instruction}
use Rattle.execute.proofs.findings.value.Goals as goal

pub returns-in-0 : goal.returns-in-0
unfolding register_of by_rrr past_instruction renewed onward
returns-in-0 c = λ n e. simp c.in-0.is

pub returns-in-1 : goal.returns-in-1
unfolding register_of by_rrr past_instruction renewed onward
returns-in-1 c = λ n e. simp c.in-1.is

pub returns-in-2 : goal.returns-in-2
unfolding register_of by_rrr past_instruction renewed onward
returns-in-2 c = λ n e. simp c.in-2.is

pub returns-in-3 : goal.returns-in-3
unfolding register_of by_rrr past_instruction renewed onward
returns-in-3 c = λ n e. simp c.in-3.is

pub returns-in-4 : goal.returns-in-4
unfolding register_of by_rrr past_instruction renewed onward
returns-in-4 c = λ n e. simp (c.in-4.is, e)

pub returns-in-5 : goal.returns-in-5
unfolding register_of by_rrr past_instruction renewed onward
returns-in-5 c = λ n e. simp c.in-5.is

pub returns-in-6 : goal.returns-in-6
unfolding register_of by_rrr past_instruction renewed onward
returns-in-6 c = λ n e. simp c.in-6.is

pub returns-in_default : goal.returns-in_default
unfolding register_of by_rrr past_instruction renewed onward
returns-in_default c = λ n e. simp (ne_eqb _ _ c.in_default.in_default-own.rest.1, ne_eqb _ _ c.in_default.in_default-own.rest.0.1, ne_eqb _ _ c.in_default.in_default-own.rest.0.0.1, ne_eqb _ _ c.in_default.in_default-own.rest.0.0.0.1, ne_eqb _ _ c.in_default.in_default-own.rest.0.0.0.0.1, ne_eqb _ _ c.in_default.in_default-own.rest.0.0.0.0.0.1, ne_eqb _ _ c.in_default.in_default-own.rest.0.0.0.0.0.0.1)
