-- `touches::accesses::worked` meets its contract.
-- Assumes nothing.
use mathlib.Core.Path.{sym, ◌∙◌}
use Rattle.instruction_rules.specs.MemoryForms.{read_first}
use Rattle.touches.proofs.accesses.worked.Goals as goal

pub returns-then-is_move : goal.returns-then-is_move
unfolding read_first
returns-then-is_move c = simp (c.operand.ensures, c.size-size.ensures, sym c.is_move.ensures ∙ c.if-is_move.true)

pub returns-else-is_move : goal.returns-else-is_move
unfolding read_first
returns-else-is_move c = simp (c.operand-else-is_move.ensures, c.size-size.ensures, sym c.is_move.ensures ∙ c.if-is_move.false)
