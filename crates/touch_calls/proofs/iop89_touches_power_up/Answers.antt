-- `touch_calls::iop89_touches_power_up` meets its contract.
-- Assumes nothing.
use Rattle.attention_rules.specs.Power.{power_up_of}
use Rattle.ground_rules.proofs.OutcomeLaws.{settled-number}
use Rattle.state_rules.specs.Calls.{answer_from}
use Rattle.touch_rules.specs.TouchCalls.{telling, told_as, touches_power_up}
use Rattle.touches.specs.Tales.{Foreseen}
use borrow.Author.Tests.{eq-eqb, ne_eqb}
use mathlib.Core.Path.{ap}
use Rattle.touch_calls.proofs.iop89_touches_power_up.Goals as goal

pub returns-then-state-ne104 : goal.returns-then-state-ne104
unfolding touches_power_up
returns-then-state-ne104 c = rw (c.number.ensures, ne_eqb _ _ c.if-state-ne104.true)

pub returns : goal.returns
unfolding touches_power_up told_as power_up_of
returns c =
    rw (c.plain.ensures, eq-eqb _ _ c.if-state-ne104.false, settled-number)
    (ap (λ (f : Foreseen). telling (answer_from f.number 0 0 f.count) f.words) c.power_up.ensures)
