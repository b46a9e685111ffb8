-- `step::turns/ends_now` meets its contract.
-- Assumes nothing.
use Rattle.turn_rules.specs.Choosing.{ends_now}
use Rattle.step.proofs.turns.ends_now.Goals as goal

pub returns : goal.returns
unfolding ends_now
returns c = simp (c.transferring.ensures, c.is_running.ensures)
