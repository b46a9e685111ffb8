-- `schedule_calls::counting::add` meets its contract.
-- Assumes nothing.
use Rattle.std.proofs.Common.{sym, refl}
use lib.Seq.{set_out}
use Rattle.schedule_calls.specs.Words.{added_at}
use Rattle.schedule_calls.proofs.counting.add.Goals as goal

pub returns-then-at-report : goal.returns-then-at-report
unfolding added_at
returns-then-at-report c = refl

pub returns-else-at-report : goal.returns-else-at-report
unfolding added_at
returns-else-at-report c = sym (set_out _ _ _ c.if-at-report.false)
