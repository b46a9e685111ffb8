use Prim.Native.Nat.{◌≤◌, ◌-◌}
use lib.ListN.{length}
use mathlib.Core.Path.{◌≡◌}
use Rattle.sweep.specs.Loops.{shifted}
use Rattle.sweep.proofs.shift.Given as goal

abbrev pub invariant-loop-i : goal.invariant-loop-i
invariant-loop-i l = (l.i ≤ l.n) × (length l.buffer ≡ length l.initial.buffer) × (l.buffer ≡ shifted l.initial.buffer l.from l.into l.i)
