use Prim.Native.Nat.{◌-◌, ◌≤◌}
use lib.ListN.{length}
use mathlib.Core.Path.{◌≡◌}
use Rattle.ground_rules.specs.Buffers.{buffers}
use Rattle.panel.specs.Bursts.{burst_from, moves, transfers_on, carried_as}
use Rattle.panel.proofs.rows.row.Given as goal

abbrev pub invariant-loop-done : goal.invariant-loop-done
invariant-loop-done l =
    (l.done ≤ l.stop)
    × (length l.sys ≡ length l.initial.sys)
    × (length l.io ≡ length l.initial.io)
    × (burst_from moves transfers_on (l.stop - l.done) (carried_as l.c l.p) (buffers l.sys l.io) l.done ≡ burst_from moves transfers_on (l.stop - l.initial.done) (carried_as l.c l.initial.p) (buffers l.initial.sys l.initial.io) l.initial.done)

abbrev pub decreases-loop-done : goal.decreases-loop-done
decreases-loop-done l = l.stop - l.done
