-- `state_bytes::layout::put_board` meets its contract.
-- Assumes nothing.
use mathlib.Core.Path.{◌∙◌}
use Rattle.state_rules.specs.Layout.{board_bytes}
use Rattle.state_bytes.proofs.layout.put_board.Goals as goal

pub returns : goal.returns
unfolding board_bytes
returns c = c.put-4.ensures ∙ rw (c.flag_byte-4.ensures, c.put-3.ensures, c.flag_byte-3.ensures, c.put-2.ensures, c.flag_byte-2.ensures, c.put.ensures, c.flag_byte.ensures)
