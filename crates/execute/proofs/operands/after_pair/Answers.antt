-- `execute::operands::after_pair` meets its contract.
-- Assumes nothing.
use Rattle.std.proofs.Common.{arith}
use Rattle.instruction_rules.proofs.LengthLaws.{offset-small}
use Rattle.instruction_rules.specs.Lengths.{offset_length}
use Rattle.execute.proofs.operands.after_pair.Goals as goal

pub overflow_add-offset_length : goal.overflow_add-offset_length
unfolding offset_length
overflow_add-offset_length c = omega (arith, c.offset_length.ensures, offset-small c.args.m.aa)

pub returns : goal.returns
returns c = simp (c.onward.ensures, c.offset_length.ensures)
