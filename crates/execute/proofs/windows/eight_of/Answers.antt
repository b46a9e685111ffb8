-- `execute::windows::eight_of` meets its contract.
-- Assumes nothing.
use Rattle.execute.specs.Bytes.{eight_from}
use Rattle.execute.proofs.windows.eight_of.Goals as goal

pub returns : goal.returns
unfolding eight_from
returns c = simp (c.four_of-2.ensures, c.four_of.ensures)
