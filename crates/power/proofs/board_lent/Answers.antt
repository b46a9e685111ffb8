-- `power::board_lent` meets its contract.
-- Assumes nothing.
use Rattle.attention_rules.proofs.PowerNumbers.{places_row}
use Rattle.power.proofs.board_lent.Goals as goal

pub returns : goal.returns
returns c =
    rw (c.span_touchable-5.ensures, c.span_touchable-4.ensures, c.sum20.ensures, c.span_touchable-3.ensures, c.span_touchable-2.ensures, c.span_touchable.ensures, c.busy-busy.ensures, c.control.ensures, c.configuration-block.ensures)
    (places_row _)
