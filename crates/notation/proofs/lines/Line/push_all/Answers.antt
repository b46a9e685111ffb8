-- `notation::lines::Line::push_all` meets its contract.
-- Assumes nothing.
use Rattle.notation.specs.Writing.{held_in4}
use Rattle.notation.proofs.PieceLaws.{fits_head, fits_next, wrote-both}
use Rattle.notation.proofs.lines.Line.push_all.Goals as goal

pub push-requires : goal.push-requires
unfolding held_in4
push-requires c = fits_head _ _ c.requires

pub push-requires-2 : goal.push-requires-2
unfolding held_in4
push-requires-2 c = fits_head _ _ (fits_next _ _ c.requires c.push.ensures)

pub push-requires-3 : goal.push-requires-3
unfolding held_in4
push-requires-3 c = fits_head _ _ (fits_next _ _ (fits_next _ _ c.requires c.push.ensures) c.push-2.ensures)

pub push-requires-4 : goal.push-requires-4
unfolding held_in4
push-requires-4 c = fits_next _ _ (fits_next _ _ (fits_next _ _ c.requires c.push.ensures) c.push-2.ensures) c.push-3.ensures

pub returns : goal.returns
unfolding held_in4
returns c = wrote-both _ _ c.push.ensures (wrote-both _ _ c.push-2.ensures (wrote-both _ _ c.push-3.ensures c.push-4.ensures))
