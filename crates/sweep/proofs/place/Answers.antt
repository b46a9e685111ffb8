-- `sweep::place` meets its contract: by the tag.
-- Assumes nothing.
use Rattle.ground_rules.specs.Buffers.{index_of, limit_of}
use Rattle.sweep.proofs.place.Goals as goal

pub returns-then-p : goal.returns-then-p
unfolding index_of limit_of
returns-then-p c = simp c.if-p.true

pub returns-else-p : goal.returns-else-p
unfolding index_of limit_of
returns-else-p c = simp c.if-p.false
