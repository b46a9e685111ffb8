use Rattle.std.proofs.Common.{take}
use Rattle.ground_rules.specs.Buffers.{buffers}
use Rattle.schedule_calls.specs.Turns.{standing}
use Rattle.schedule_calls.proofs.RunLaws.{Ran}
use Rattle.schedule_calls.proofs.iop89_schedule.Given as goal

-- what stands after the rows run so far
abbrev pub invariant-loop-row : goal.invariant-loop-row
invariant-loop-row l =
    Ran (standing l.fn.state (buffers l.fn.sys l.fn.io) l.fn.report) (take l.row-index l.rows) (standing l.state (buffers l.sys l.io) l.report)
