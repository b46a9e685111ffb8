-- `step::turns/second_wins` meets its contract.
-- Assumes nothing.
use borrow.Author.Tests.{lt-ltb, le-ltb, le-leb, lt-leb}
use Rattle.turn_rules.specs.Choosing.{second_wins}
use Rattle.step.proofs.turns.second_wins.Goals as goal

pub returns-then-rank1-rank2 : goal.returns-then-rank1-rank2
unfolding second_wins
returns-then-rank1-rank2 c = simp (lt-ltb _ _ c.if-rank1-rank2.true, lt-leb _ _ c.if-rank1-rank2.true)

pub returns-then-rank2-rank1 : goal.returns-then-rank2-rank1
unfolding second_wins
returns-then-rank2-rank1 c = simp (lt-ltb _ _ c.if-rank2-rank1.true, lt-leb _ _ c.if-rank2-rank1.true, le-ltb _ _ c.if-rank1-rank2.false, le-leb _ _ c.if-rank1-rank2.false)

pub returns-then-priority1-priority2 : goal.returns-then-priority1-priority2
unfolding second_wins
returns-then-priority1-priority2 c = simp (c.if-priority1-priority2.true, le-ltb _ _ c.if-rank2-rank1.false, le-leb _ _ c.if-rank2-rank1.false, le-ltb _ _ c.if-rank1-rank2.false, le-leb _ _ c.if-rank1-rank2.false)

pub returns-then-priority2-priority1 : goal.returns-then-priority2-priority1
unfolding second_wins
returns-then-priority2-priority1 c = simp (c.if-priority2-priority1.true, c.if-priority1-priority2.false, le-ltb _ _ c.if-rank2-rank1.false, le-leb _ _ c.if-rank2-rank1.false, le-ltb _ _ c.if-rank1-rank2.false, le-leb _ _ c.if-rank1-rank2.false)

pub returns : goal.returns
unfolding second_wins
returns c =
    rw (le-ltb _ _ c.if-rank1-rank2.false, le-ltb _ _ c.if-rank2-rank1.false, c.if-priority1-priority2.false, c.if-priority2-priority1.false)
