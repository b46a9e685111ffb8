-- `processor_calls::iop89_pair_schedule` meets its contract.
-- Assumes nothing.
use mathlib.Core.Path.{ap}
use Rattle.std.proofs.Common.{arith}
use Rattle.processor_calls.specs.Calls.{scheduled_as, pair_schedule}
use Rattle.processor_calls.proofs.NamedLaws.{leaves-one, leaves-two, leaves_none}
use Rattle.processor_calls.proofs.iop89_pair_schedule.Goals as goal

pub returns-in-1 : goal.returns-in-1
unfolding pair_schedule
returns-in-1 c = leaves-one _ _ _ _ _ c.in-1.is _ (ap scheduled_as c.iop89_schedule.ensures.0)

pub returns-in-2 : goal.returns-in-2
unfolding pair_schedule
returns-in-2 c = leaves-two _ _ _ _ _ c.in-2.is _ (ap scheduled_as c.iop89_schedule-in-2.ensures.0)

pub returns-in_default : goal.returns-in_default
unfolding pair_schedule
returns-in_default c = rw (c.clear.ensures, c.number.ensures) (leaves_none _ _ _ _ _ (λ e. omega (arith, e)) (λ e. omega (arith, e)))
