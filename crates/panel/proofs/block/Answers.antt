-- `panel::block` meets its contract.
-- Assumes nothing.
use Rattle.panel.proofs.block.Goals as goal

pub returns-then-second : goal.returns-then-second
returns-then-second c = simp (c.sum20.ensures, c.if-second.true)
