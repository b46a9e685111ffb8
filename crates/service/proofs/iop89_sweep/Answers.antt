-- `service::iop89_sweep` meets its contract: a refused sweep leaves the bytes, a done one puts its channel into them.
-- Assumes nothing.
use borrow.Author.Rules.{rules}
use mathlib.Core.Path.{refl, sym, ap, ◌∙◌}
use Rattle.ground_rules.specs.Refusals.{number_of}
use Rattle.ground_rules.proofs.RefusalLaws.{number-positive}
use Rattle.ground_rules.specs.declared.State.{State}
use Rattle.ground_rules.specs.Buffers.{buffers}
use Rattle.sweep_rules.specs.Sweep.{sweep_of}
use Rattle.state_rules.proofs.CallLaws.{state-length}
use Rattle.state_rules.proofs.SweepLaws.{sweep-none, sweep-refused, sweep-done}
use Rattle.service.proofs.iop89_sweep.Goals as goal

pub returns-then-not-is_state : goal.returns-then-not-is_state
returns-then-not-is_state c =
    let both =
    let a = c.args in
    sweep-none a.state.now (buffers a.sys.now a.io.now) a.channel a.lines (sym c.is_state.ensures ∙ c.if-not-is_state.true) in
    rw c.number.ensures (record { left = both.0; whole = both.1 })

pub state_in-requires : goal.state_in-requires
state_in-requires c = state-length _ (sym c.is_state.ensures ∙ c.if-not-is_state.false)

pub returns-in-Err : goal.returns-in-Err
returns-in-Err c =
    let a = c.args in
    let m = buffers a.sys.now a.io.now in
    let both = sweep-refused a.state.now m a.channel a.lines (sym c.is_state.ensures ∙ c.if-not-is_state.false) (number_of c.in-Err.refusal) _ 0 0 _
    (c.in-Err.ensures ∙ ap (λ (s : State). sweep_of s m a.channel a.lines) c.state_in.ensures) (λ i. search rules) (number-positive c.in-Err.refusal) in
    rw (c.sweep_answer-in-Err.ensures, c.number-in-Err.ensures) (record { left = both.0; whole = both.1 })

pub put_step-requires : goal.put_step-requires
put_step-requires c = sym c.is_state.ensures ∙ c.if-not-is_state.false

pub returns-in-Ok : goal.returns-in-Ok
returns-in-Ok c =
    let a = c.args in
    let m = buffers a.sys.now a.io.now in
    let w = c.in-Ok.swept in
    let second = c.is_second-second.ensures in
    let channel = c.channel.ensures in
    let both = sweep-done a.state.now m a.channel a.lines (sym c.is_state.ensures ∙ c.if-not-is_state.false) 0 w.state w.steps w.count _
    (c.in-Ok.ensures ∙ ap (λ (s : State). sweep_of s m a.channel a.lines) c.state_in.ensures) refl _ (c.put_step.ensures.put ∙ rw (channel, second)) (c.put_step.ensures.whole ∙ rw (channel, second)) in
    rw c.sweep_answer.ensures (record { left = both.0; whole = both.1 })
