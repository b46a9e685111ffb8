-- `step::turns/ranked` meets its contract.
-- Assumes nothing.
use Rattle.turn_rules.specs.Choosing.{ranked}
use Rattle.step.proofs.turns.ranked.Goals as goal

pub returns-then-rank1-rank2 : goal.returns-then-rank1-rank2
unfolding ranked
returns-then-rank1-rank2 c = simp c.if-rank1-rank2.true

pub returns : goal.returns
unfolding ranked
returns c = simp (c.second_wins-wins.ensures, c.priority-2.ensures, c.priority.ensures, c.if-rank1-rank2.false)
