use lib.Dec.{eqb}
use mathlib.Core.Bool.{true}
use Prim.Native.Nat.{◌-◌, ◌<◌, ◌≤◌}
use lib.ListN.{length}
use mathlib.Core.Bool.{true}
use mathlib.Core.Path.{◌≡◌}
use Rattle.ground_rules.specs.Buffers.{buffers}
use Rattle.ground_rules.specs.Psw.{source_wide, destination_wide}
use Rattle.panel.specs.Bursts.{burst_from, moves, transfers_on, kept_at, word_side_at, fallen}
use Rattle.panel.proofs.quiet.quiet_steps.Given as goal

abbrev pub invariant-loop-done : goal.invariant-loop-done
invariant-loop-done g l =
    (l.from ≤ l.done)
    × (l.done ≤ l.end)
    × (length l.sys ≡ length l.initial.sys)
    × (length l.io ≡ length l.initial.io)
    × ((l.from < l.end → (l.source < 1048576) × (l.destination < 1048576)))
    × (burst_from moves transfers_on (l.stop - l.done) (kept_at l.c l.source l.destination (fallen (eqb g.row.BY 2) l.c.bc (l.done - l.from))) (buffers l.sys l.io) l.done ≡ burst_from moves transfers_on (l.stop - l.from) l.c (buffers l.initial.sys l.initial.io) l.from)
    × ((eqb g.row.BY 2) ≡ true → (l.from_word ≡ word_side_at (source_wide l.c.psw) l.source) × (l.into_word ≡ word_side_at (destination_wide l.c.psw) l.destination))

abbrev pub decreases-loop-done : goal.decreases-loop-done
decreases-loop-done g l = l.end - l.done
