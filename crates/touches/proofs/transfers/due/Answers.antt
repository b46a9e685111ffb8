-- `touches::transfers::due` meets its contract.
-- Assumes nothing.
use mathlib.Core.Path.{sym, ◌∙◌}
use Rattle.touches.proofs.transfers.due.Goals as goal

pub returns-then-is_half : goal.returns-then-is_half
returns-then-is_half c = λ m e. c.half.ensures (sym c.is_half.ensures ∙ c.if-is_half.true) m

pub returns-else-is_half : goal.returns-else-is_half
returns-else-is_half c = λ m e. c.whole.ensures (sym c.is_half.ensures ∙ c.if-is_half.false) m e
