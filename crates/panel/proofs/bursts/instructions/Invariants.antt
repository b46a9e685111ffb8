use Prim.Native.Nat.{◌-◌, ◌≤◌}
use lib.ListN.{length}
use mathlib.Core.Path.{◌≡◌}
use Rattle.ground_rules.specs.Buffers.{buffers}
use Rattle.panel.specs.Bursts.{burst_from, executes, executes_on}
use Rattle.panel.proofs.bursts.instructions.Given as goal

abbrev pub invariant-loop-done : goal.invariant-loop-done
invariant-loop-done l =
    (l.done ≤ l.stop)
    × (length l.sys ≡ length l.initial.sys)
    × (length l.io ≡ length l.initial.io)
    × (burst_from (executes l.busy) executes_on (l.stop - l.done) l.mine (buffers l.sys l.io) l.done ≡ burst_from (executes l.busy) executes_on (l.stop - l.initial.done) l.initial.mine (buffers l.initial.sys l.initial.io) l.initial.done)

abbrev pub decreases-loop-done : goal.decreases-loop-done
decreases-loop-done l = l.stop - l.done
