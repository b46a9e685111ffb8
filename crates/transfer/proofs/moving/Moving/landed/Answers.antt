-- `Moving::landed` meets its contract.
-- Assumes nothing.
use Rattle.transfer.specs.Setups.{setup_of}
use Rattle.transfer.specs.Moves.{landed_by}
use Rattle.transfer.proofs.moving.Moving.landed.Goals as goal

pub returns : goal.returns
unfolding landed_by setup_of
returns c = rw (c.ended.ensures, c.moved_by.ensures, c.count_down-bc.ensures, c.one_or_two.ensures, c.args.self.said)
