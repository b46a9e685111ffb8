-- `state_bytes::layout::held_fits` meets its contract.
-- Assumes nothing.
use Rattle.state_bytes.proofs.layout.held_fits.Goals as goal

pub returns : goal.returns
returns c = simp (c.stands.ensures, c.word.ensures)
