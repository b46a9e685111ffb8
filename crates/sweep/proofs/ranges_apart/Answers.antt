-- `sweep::ranges_apart` meets its contract: the test of both tags is `same_flag`.
-- Assumes nothing.
use Prim.Native.Nat.{◌+◌}
use lib.Dec.{leb}
use mathlib.Core.Bool.{Bool, not, ◌||◌}
use mathlib.Core.Path.{ap}
use native.Mathlib.Omega.{arith}
use Rattle.ground_rules.proofs.PlaceLaws.{index-small}
use Rattle.sweep_rules.specs.Ranges.{place_of, ranges_apart}
use Rattle.sweep.proofs.SpaceLaws.{same_bits}
use Rattle.sweep.proofs.ranges_apart.Goals as goal

pub overflow_add-result : goal.overflow_add-result
overflow_add-result c = let a = c.args in omega (arith, c.place-from.ensures, index-small a.p.tag a.p.address)

pub overflow_add-result-2 : goal.overflow_add-result-2
overflow_add-result-2 c = let a = c.args in omega (arith, c.place-into.ensures, index-small a.q.tag a.q.address)

pub returns : goal.returns
unfolding ranges_apart
returns c =
    let a = c.args in
    rw (c.place-into.ensures, c.place-from.ensures)
    (ap (λ (x : Bool). not x || (leb (place_of a.p + a.n) (place_of a.q) || leb (place_of a.q + a.n) (place_of a.p))) (same_bits a.p.tag a.q.tag))
