-- `state_bytes::layout::is_board` meets its contract.
-- Assumes nothing.
use Rattle.state_bytes.proofs.TestLaws.{board-by}
use Rattle.state_bytes.proofs.layout.is_board.Goals as goal

pub returns : goal.returns
returns c = rw (c.is_flag-4.ensures, c.is_flag-3.ensures, c.is_flag-2.ensures, c.is_flag.ensures) (board-by _)
