-- `step::turns/transfer_rank` meets its contract.
-- Assumes nothing.
use Rattle.turn_rules.specs.Choosing.{transfer_rank}
use Rattle.step.proofs.turns.transfer_rank.Goals as goal

pub returns-then-syn-drq : goal.returns-then-syn-drq
unfolding transfer_rank
returns-then-syn-drq c = rw c.if-syn-drq.true

pub returns-else-syn-drq : goal.returns-else-syn-drq
unfolding transfer_rank
returns-else-syn-drq c = rw c.if-syn-drq.false
