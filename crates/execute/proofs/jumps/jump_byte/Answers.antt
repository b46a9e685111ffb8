-- `execute::jumps::jump_byte` meets its contract.
-- Assumes nothing.
use Rattle.execute.proofs.jumps.jump_byte.Goals as goal

pub returns : goal.returns
returns c = simp (c.past.ensures, c.grown_ix.ensures, c.led_by.ensures)
