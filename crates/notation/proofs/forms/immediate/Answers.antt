-- `notation::forms::immediate` meets its contract.
-- Assumes nothing.
use Rattle.notation.proofs.forms.immediate.Goals as goal

pub returns-then-is_jump : goal.returns-then-is_jump
returns-then-is_jump c = simp (c.alone.ensures, c.if-is_jump.true, ← c.is_jump.ensures)

pub returns-else-is_jump : goal.returns-else-is_jump
returns-else-is_jump c = simp (c.both.ensures, c.if-is_jump.false, ← c.is_jump.ensures)
