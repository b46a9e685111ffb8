-- `sweep::range_lent` meets its contract: by the tag, from the place of its first byte.
-- Assumes nothing.
use native.Mathlib.Omega.{arith}
use Rattle.ground_rules.proofs.PlaceLaws.{index-small}
use Rattle.ground_rules.specs.Buffers.{space_of}
use Rattle.sweep_rules.specs.Ranges.{range_lent}
use Rattle.sweep.proofs.range_lent.Goals as goal

pub overflow_add-end : goal.overflow_add-end
overflow_add-end c = let a = c.args in omega (arith, c.place.ensures, index-small a.p.tag a.p.address)

pub returns-then-p : goal.returns-then-p
unfolding range_lent space_of
returns-then-p c = rw (c.place.ensures, c.if-p.true)

pub returns-else-p : goal.returns-else-p
unfolding range_lent space_of
returns-else-p c = rw (c.place.ensures, c.if-p.false)
