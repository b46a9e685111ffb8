-- `state_bytes::layout::board_in` meets its contract.
-- Assumes nothing.
use Rattle.state_rules.specs.Layout.{board_in}
use Rattle.state_bytes.proofs.layout.board_in.Goals as goal

pub returns : goal.returns
unfolding board_in
returns c = rw (c.flag-4.ensures, c.flag-3.ensures, c.flag-2.ensures, c.flag.ensures)
