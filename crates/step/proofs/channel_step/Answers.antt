-- `step::channel_step` meets its contract.
-- Assumes nothing.
use Rattle.std.proofs.Common.{refl, sym, ap, ◌∙◌, Result}
use Rattle.ground_rules.specs.Buffers.{buffers}
use Rattle.ground_rules.specs.Outcomes.{counted}
use Rattle.step.specs.Turns.{turned}
use Rattle.step.specs.declared.Turn.{Turn}
use Rattle.step.specs.declared.RefusedTurn.{RefusedTurn}
use Rattle.step.proofs.TurnLaws.{turn-steps}
use Rattle.step.proofs.channel_step.Goals as goal

pub returns-in-Err : goal.returns-in-Err
returns-in-Err c =
    let a = c.args in
    let m = buffers a.sys.now a.io.now in
    let t = c.channel_turn in
    let x = turn-steps a.s a.s refl m a.second _ c.channel.ensures t.result _ t.ensures.left in
    let e = rw c.in-Err.is at t.ensures.count in
    record {
      left = sym (ap (λ (r : Result Turn RefusedTurn). turned a.s a.second r (buffers t.new.sys t.new.io)) c.in-Err.is) ∙ x.0;
      count = e ∙ ap (counted _) x.1;
    }

pub returns-in-Ok : goal.returns-in-Ok
returns-in-Ok c =
    let a = c.args in
    let m = buffers a.sys.now a.io.now in
    let t = c.channel_turn in
    let x = turn-steps a.s a.s refl m a.second _ c.channel.ensures t.result _ t.ensures.left in
    let e = rw c.in-Ok.is at t.ensures.count in
    rw c.done.ensures (record {
      left = sym (ap (λ (r : Result Turn RefusedTurn). turned a.s a.second r (buffers t.new.sys t.new.io)) c.in-Ok.is) ∙ x.0;
      count = e ∙ ap (counted _) x.1;
    })
