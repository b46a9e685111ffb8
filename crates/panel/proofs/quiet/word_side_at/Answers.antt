-- `panel::quiet::word_side_at` meets its contract.
-- Assumes nothing.
use Rattle.panel.proofs.quiet.word_side_at.Goals as goal

pub returns : goal.returns
returns c = rw c.bit.ensures
