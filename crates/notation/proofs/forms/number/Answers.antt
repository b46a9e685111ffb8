-- `notation::forms::number` meets its contract.
-- Assumes nothing.
use Rattle.notation.proofs.forms.number.Goals as goal

pub returns-then-two : goal.returns-then-two
returns-then-two c = simp (← c.word_number.ensures, ← c.byte_at-high.ensures, c.if-two.true, ← c.byte_at-low.ensures)

pub returns-else-two : goal.returns-else-two
returns-else-two c = simp (← c.byte_number.ensures, c.if-two.false, ← c.byte_at-low.ensures)
