-- `service::iop89_step` meets its contract.
-- Assumes nothing.
use Prim.Native.Nat.{ℕ}
use borrow.Author.Rules.{rules}
use borrow.Author.Tests.{eqb-false}
use mathlib.Core.Path.{refl, sym, ap, ◌∙◌}
use Rattle.ground_rules.proofs.OutcomeLaws.{refused-counts}
use Rattle.ground_rules.specs.declared.State.{State}
use Rattle.ground_rules.specs.Buffers.{buffers}
use Rattle.turn_rules.proofs.SoundLaws.{entry-agree}
use Rattle.turn_rules.specs.Choosing.{choice_of}
use Rattle.turn_rules.specs.Step.{chosen_step, entry_number}
use Rattle.turn_rules.specs.declared.Choice.TheVariants.{Nobody}
use Rattle.state_rules.specs.Calls.{answer_from}
use Rattle.state_rules.specs.Layout.{state_in}
use Rattle.state_rules.proofs.CallLaws.{state-length, step-none}
use Rattle.step.proofs.TurnLaws.{turn-steps}
use Rattle.ground_rules.specs.Outcomes.{counted}
use Rattle.step.specs.Turns.{turn_number}
use Rattle.ground_rules.proofs.RefusalLaws.{number-positive}
use Rattle.service.proofs.TurnLaws.{entry-refused, chosen-step, refused-served, turn-served, turn-fits, end-served}
use Rattle.service.proofs.iop89_step.Goals as goal

pub returns-then-not-is_state : goal.returns-then-not-is_state
returns-then-not-is_state c =
    let both =
    let a = c.args in
    step-none a.state.now (buffers a.sys.now a.io.now) a.lines (sym c.is_state.ensures ∙ c.if-not-is_state.true) in
    rw c.number.ensures (record { left = both.0; whole = both.1 })

pub looked_at-s-requires : goal.looked_at-s-requires
looked_at-s-requires c = state-length _ (sym c.is_state.ensures ∙ c.if-not-is_state.false)

pub check_entry-requires : goal.check_entry-requires
check_entry-requires c = (sym c.is_state.ensures ∙ c.if-not-is_state.false, c.looked_at-s.ensures)

pub returns-in-Err : goal.returns-in-Err
returns-in-Err c =
    let both =
    let a = c.args in
    let b = a.state.now in
    let m = buffers a.sys.now a.io.now in
    let n = c.in-Err.ensures ∙ ap (λ (s : State). entry_number s m a.lines) c.looked_at-s.ensures in
    refused-served b m (sym c.is_state.ensures ∙ c.if-not-is_state.false) a.lines (λ i. search rules) (entry_number (state_in b) m a.lines) (λ z. number-positive _ (n ∙ z))
    (entry-refused (state_in b) m a.lines (λ z. number-positive _ (n ∙ z))) _ (c.refused.ensures ∙ ap (λ (k : ℕ). answer_from k 0 0 0) n) in
    record { left = both.0; whole = both.1 }

pub ended-requires : goal.ended-requires
ended-requires c = sym c.is_state.ensures ∙ c.if-not-is_state.false

pub stepping-requires : goal.stepping-requires
stepping-requires c =
    let a = c.args in
    let m = buffers a.sys.now a.io.now in
    let z = sym c.in_default.ensures in (
      sym c.is_state.ensures ∙ c.if-not-is_state.false,
      entry-agree (state_in a.state.now) m a.lines (ap (λ (x : State). entry_number x m a.lines) (sym c.looked_at-s.ensures) ∙ z),
    )

pub stepped-requires : goal.stepped-requires
unfolding chosen_step
stepped-requires c =
    let a = c.args in
    let m = buffers a.sys.now a.io.now in
    let s = c.looked_at-s in
    let t = c.channel_turn-turn in
    let z = sym c.in_default.ensures in
    let w = turn-steps s.result _ s.ensures m _ _ c.stepping.ensures t.result _ t.ensures.left in
    let agrees = turn-fits s.result m a.lines _ t.result _ z (sym c.choose.ensures ∙ c.in-Steps.is) w.0 in (
      sym c.is_state.ensures ∙ c.if-not-is_state.false,
      entry-agree (state_in a.state.now) m a.lines (ap (λ (x : State). entry_number x m a.lines) (sym s.ensures) ∙ z),
      agrees,
    )

pub returns-in-Nobody : goal.returns-in-Nobody
unfolding chosen_step
returns-in-Nobody c =
    let both =
    let a = c.args in
    let b = a.state.now in
    let m = buffers a.sys.now a.io.now in
    let s = c.looked_at-s.ensures in
    let z = sym (ap (λ (x : State). entry_number x m a.lines) s) ∙ sym c.in_default.ensures in
    let who = sym (c.choose.ensures ∙ ap (λ (x : State). choice_of x a.lines) s) ∙ c.in-Nobody.is in
    refused-served b m (sym c.is_state.ensures ∙ c.if-not-is_state.false) a.lines (λ i. search rules) 1 (eqb-false 1 0 refl)
    (chosen-step (state_in b) m a.lines Nobody z who) _ c.refused-in-Nobody.ensures in
    record { left = both.0; whole = both.1 }

pub returns-in-Ends : goal.returns-in-Ends
returns-in-Ends c =
    let both =
    let a = c.args in
    let m = buffers a.sys.now a.io.now in
    let s = c.looked_at-s in
    end-served a.state.now m (sym c.is_state.ensures ∙ c.if-not-is_state.false) a.lines s.result s.ensures _
    (sym c.in_default.ensures) (sym c.choose.ensures ∙ c.in-Ends.is) _ _ (c.ended.ensures.left m) (c.ended.ensures.whole m) in
    record { left = both.0; whole = both.1 }

pub returns-in-Steps : goal.returns-in-Steps
unfolding chosen_step
returns-in-Steps c =
    let both =
    let a = c.args in
    let m = buffers a.sys.now a.io.now in
    let s = c.looked_at-s in
    let t = c.channel_turn-turn in
    let w = turn-steps s.result _ s.ensures m _ _ c.stepping.ensures t.result _ t.ensures.left in
    turn-served a.state.now m (sym c.is_state.ensures ∙ c.if-not-is_state.false) a.lines s.result s.ensures _ _ t.result _
    (sym c.in_default.ensures) (sym c.choose.ensures ∙ c.in-Steps.is) w.0 (t.ensures.count ∙ ap (counted (turn_number t.result)) w.1) _ _ (c.stepped.ensures.left _) (c.stepped.ensures.whole _) in
    record { left = both.0; whole = both.1 }
