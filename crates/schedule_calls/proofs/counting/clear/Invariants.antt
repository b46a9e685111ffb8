use mathlib.Core.Path.{◌≡◌}
use Rattle.std.proofs.Common.{replicate}
use Rattle.schedule_rules.specs.Reports.{put_over}
use Rattle.schedule_calls.proofs.counting.clear.Given as goal

-- as many words as were passed are cleared
abbrev pub invariant-loop-at : goal.invariant-loop-at
invariant-loop-at l = l.report ≡ put_over (replicate l.at 0) l.initial.report
