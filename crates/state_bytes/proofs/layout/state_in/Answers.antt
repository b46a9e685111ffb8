-- `state_bytes::layout::state_in` meets its contract.
-- Assumes nothing.
use Rattle.state_rules.specs.Layout.{board_in, state_in}
use Rattle.state_bytes.proofs.layout.state_in.Goals as goal

pub returns : goal.returns
unfolding state_in board_in
returns c = rw (c.board_in.ensures, c.flag.ensures, c.long.ensures, c.channel_in-2.ensures, c.channel_in.ensures)
