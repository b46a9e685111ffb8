use Prim.Native.Nat.{◌≤◌, ◌-◌}
use lib.ListN.{length}
use mathlib.Core.Path.{◌≡◌}
use Rattle.sweep.specs.Loops.{laid}
use Rattle.sweep.proofs.lay.Given as goal

abbrev pub invariant-loop-i : goal.invariant-loop-i
invariant-loop-i l = (l.i ≤ l.n) × (length l.target ≡ length l.initial.target) × (l.target ≡ laid l.source l.from l.initial.target l.into l.i)
