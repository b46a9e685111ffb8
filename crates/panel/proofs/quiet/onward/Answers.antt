-- `panel::quiet::onward` meets its contract.
-- Assumes nothing.
use Rattle.panel.proofs.quiet.onward.Goals as goal

pub returns-then-moves : goal.returns-then-moves
returns-then-moves c = simp (c.sum20.ensures, c.if-moves.true)
