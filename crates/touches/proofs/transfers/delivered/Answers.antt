-- `touches::transfers::delivered` meets its contract.
-- Assumes nothing.
use Rattle.touches.proofs.transfers.delivered.Goals as goal

pub returns-then-translates : goal.returns-then-translates
returns-then-translates c = rw c.if-translates.true c.byte.ensures
