-- `service::iop89_power_up` meets its contract.
-- Assumes nothing.
use mathlib.Core.Path.{refl}
use Rattle.std.proofs.Common.{Ok, Err}
use Rattle.ground_rules.specs.Buffers.{buffers}
use Rattle.ground_rules.specs.Refusals.{outcome_by}
use Rattle.ground_rules.specs.States.{reset_state}
use Rattle.ground_rules.proofs.RefusalLaws.{number-positive}
use Rattle.state_rules.proofs.CallLaws.{power-short, power-refused-on, power-done-on}
use Rattle.service.proofs.iop89_power_up.Goals as goal

pub returns-then-state-ne104 : goal.returns-then-state-ne104
returns-then-state-ne104 c =
    let both =
    let a = c.args in
    power-short a.state.now (buffers a.sys.now a.io.now) c.if-state-ne104.true in
    rw c.number.ensures (record { left = both.0; whole = both.1 })

pub returns-in-Err : goal.returns-in-Err
returns-in-Err c =
    let a = c.args in
    let m = buffers a.sys.now a.io.now in
    let both = power-refused-on a.state.now m c.if-state-ne104.false (outcome_by reset_state (Err c.in-Err.refusal) _) (c.in-Err.ensures.left reset_state) (number-positive c.in-Err.refusal) in
    rw c.refused.ensures (record { left = both.0; whole = both.1 })

pub put_state-requires : goal.put_state-requires
put_state-requires c = c.if-state-ne104.false

pub returns-in-Ok : goal.returns-in-Ok
returns-in-Ok c =
    let a = c.args in
    let m = buffers a.sys.now a.io.now in
    let both = power-done-on a.state.now m c.if-state-ne104.false (outcome_by reset_state (Ok c.in-Ok.done) _) (c.in-Ok.ensures.left reset_state) _ c.in-Ok.ensures.count refl
    c.put_state.ensures.whole in
    rw (c.answer.ensures, c.put_state.ensures.put) (record { left = both.0; whole = both.1 })
