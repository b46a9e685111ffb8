-- `schedule_calls::counting::counted_at` meets its contract: its digits are the rule's.
-- Assumes nothing.
use Rattle.std.proofs.Common.{arith}
use Rattle.schedule_calls.proofs.{WordLaws.place-digit}
use Rattle.schedule_calls.proofs.counting.counted_at.Goals as goal

pub returns : goal.returns
returns c = record { is = place-digit c.args.answer; low = omega arith }
