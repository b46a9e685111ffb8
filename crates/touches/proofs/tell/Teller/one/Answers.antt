-- `touches::tell::Teller::one` meets its contract.
-- Assumes nothing.
use Rattle.touches.specs.Tales.{told_next}
use Rattle.touches.proofs.tell.Teller.one.Goals as goal

pub returns-clause-told : goal.returns-clause-told
unfolding told_next
returns-clause-told c = rw (c.put.ensures, c.word.ensures)
