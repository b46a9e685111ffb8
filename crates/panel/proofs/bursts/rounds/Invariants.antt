use Prim.Native.Nat.{◌-◌, ◌≤◌}
use lib.ListN.{length}
use mathlib.Core.Path.{◌≡◌}
use Rattle.ground_rules.specs.Buffers.{buffers}
use Rattle.panel.specs.Bursts.{alone_from, ran_by}
use Rattle.panel.proofs.bursts.rounds.Given as goal

abbrev pub invariant-loop-done : goal.invariant-loop-done
invariant-loop-done l =
    (l.done ≤ l.limit)
    × (length l.sys ≡ length l.initial.sys)
    × (length l.io ≡ length l.initial.io)
    × (ran_by (alone_from l.busy l.lines l.second (l.limit - l.done) l.mine (buffers l.sys l.io) l.done) ≡ ran_by (alone_from l.busy l.lines l.second l.limit l.initial.mine (buffers l.initial.sys l.initial.io) 0))

abbrev pub decreases-loop-done : goal.decreases-loop-done
decreases-loop-done l = l.limit - l.done
