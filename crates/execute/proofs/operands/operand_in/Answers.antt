-- `execute::operands::operand_in` meets its contract.
-- Assumes nothing.
use Rattle.execute.specs.Bytes.{operand_of_four}
use Rattle.execute.proofs.operands.operand_in.Goals as goal

pub returns-then-wide : goal.returns-then-wide
unfolding operand_of_four
returns-then-wide c = simp (c.extend_word.ensures, c.if-wide.true)

pub returns-else-wide : goal.returns-else-wide
unfolding operand_of_four
returns-else-wide c = simp (c.extend_byte.ensures, c.if-wide.false)
