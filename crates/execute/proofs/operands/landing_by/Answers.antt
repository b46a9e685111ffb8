-- `execute::operands::landing_by` meets its contract.
-- Assumes nothing.
use Rattle.execute.specs.Bytes.{landing_by}
use Rattle.execute.proofs.operands.landing_by.Goals as goal

pub returns-then-two : goal.returns-then-two
unfolding landing_by
returns-then-two c = simp (c.displaced_word.ensures, c.if-two.true)

pub returns-else-two : goal.returns-else-two
unfolding landing_by
returns-else-two c = simp (c.displaced_byte.ensures, c.if-two.false)
