-- `execute::memories::read_first` meets its contract.
-- Assumes nothing.
use Rattle.std.proofs.Common.{sym, ◌∙◌}
use Rattle.instruction_rules.specs.MemoryForms.{read_first}
use Rattle.execute.proofs.memories.read_first.Goals as goal

pub returns-then-is_move : goal.returns-then-is_move
unfolding read_first
returns-then-is_move c = simp (sym c.is_move.ensures ∙ c.if-is_move.true)

pub returns-else-is_move : goal.returns-else-is_move
unfolding read_first
returns-else-is_move c = simp (c.size.ensures, sym c.is_move.ensures ∙ c.if-is_move.false)
