-- `execute::windows::four_singly` meets its contract.
-- Assumes nothing.
use Rattle.ground_rules.proofs.PlaceLaws.{byte-reduced}
use Rattle.execute.specs.Bytes.{four_at}
use Rattle.execute.proofs.windows.four_singly.Goals as goal

pub returns : goal.returns
unfolding four_at
returns c = simp (c.byte-4.ensures, c.sum20-3.ensures, c.byte-3.ensures, c.sum20-2.ensures, c.byte-2.ensures, c.sum20.ensures, c.byte.ensures, byte-reduced)
