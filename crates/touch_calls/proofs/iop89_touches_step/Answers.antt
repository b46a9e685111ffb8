-- `touch_calls::iop89_touches_step` meets its contract.
-- Assumes nothing.
use Prim.Native.Nat.{ℕ}
use Rattle.ground_rules.specs.Buffers.{Buffers, buffers}
use Rattle.ground_rules.specs.States.{channel_number}
use Rattle.ground_rules.specs.declared.State.{State}
use Rattle.state_rules.proofs.CallLaws.{state-length}
use Rattle.state_rules.specs.Calls.{answer_from, kind_number}
use Rattle.state_rules.specs.Layout.{state_in, is_state}
use Rattle.touch_rules.specs.Told.{places_told}
use Rattle.touch_rules.specs.TouchCalls.{telling, told_as, touches_step}
use Rattle.touch_rules.specs.Touches.{told_by_choice, told_by_step}
use Rattle.touches.proofs.CallLaws.{step-refused, step-chosen}
use Rattle.touches.specs.Steps.{StepForeseen, step_foretold}
use Rattle.turn_rules.specs.Choosing.{choice_of}
use Rattle.turn_rules.specs.Step.{entry_number, external_step, channel_step, chosen_step, step_of}
use Rattle.turn_rules.specs.declared.Choice.TheVariants.{Nobody, Ends, Steps}
use Rattle.turn_rules.specs.declared.Kind.TheVariants.{Nothing, External}
use borrow.Author.Tests.{not-true, not-false}
use Rattle.ground_rules.proofs.RefusalLaws.{number-some}
use Rattle.ground_rules.specs.Refusals.{number_of}
use lib.Dec.{eqb}
use mathlib.Core.Bool.{Bool, true}
use mathlib.Core.List.{List}
use mathlib.Core.Path.{◌≡◌, refl, sym, ap, ◌∙◌}
use Rattle.touch_calls.proofs.iop89_touches_step.Goals as goal

-- what is told and answered, by who was chosen
module _ (s : State) (m : Buffers) (lines : ℕ) (room : List ℕ) (z : eqb (entry_number s m lines) 0 ≡ true) where
  nobody-told : choice_of s lines ≡ Nobody → step_foretold (chosen_step (choice_of s lines) s m) (told_by_choice (choice_of s lines) s m) room ≡ record { number = 1; count = 0; channel = 0; kind = Nothing; words = room }
  unfolding chosen_step told_by_choice places_told
  nobody-told who = rw who refl

  end-told : (second : Bool) → choice_of s lines ≡ Ends second → step_foretold (chosen_step (choice_of s lines) s m) (told_by_choice (choice_of s lines) s m) room ≡ record { number = 0; count = 0; channel = channel_number second; kind = External; words = room }
  unfolding chosen_step external_step told_by_choice places_told
  end-told second who = rw who refl

  turn-told : (second : Bool) (f : StepForeseen) → choice_of s lines ≡ Steps second → f ≡ step_foretold (channel_step s m second) (told_by_choice (Steps second) s m) room → f ≡ step_foretold (step_of s m lines) (told_by_step s m lines) room
  unfolding chosen_step
  turn-told second f who e = e ∙ ap (λ x. step_foretold (chosen_step x s m) (told_by_choice x s m) room) (sym who) ∙ step-chosen s m lines room z

pub returns-then-not-is_state : goal.returns-then-not-is_state
unfolding touches_step
returns-then-not-is_state c = rw (c.number.ensures, sym c.is_state.ensures ∙ not-true _ c.if-not-is_state.true-raw)

pub looked_at-s-requires : goal.looked_at-s-requires
looked_at-s-requires c = state-length _ (sym c.is_state.ensures ∙ not-false _ c.if-not-is_state.false-raw)

pub check_entry-requires : goal.check_entry-requires
check_entry-requires c = (sym c.is_state.ensures ∙ not-false _ c.if-not-is_state.false-raw, c.looked_at-s.ensures)

pub returns-in-Err : goal.returns-in-Err
unfolding touches_step told_as kind_number
returns-in-Err c =
    let a = c.args in
    let m = buffers a.sys.now a.io.now in
    let is : is_state a.state.now ≡ true = sym c.is_state.ensures ∙ not-false _ c.if-not-is_state.false-raw in
    let number : number_of c.in-Err.refusal ≡ entry_number (state_in a.state.now) m a.lines = simp c.looked_at-s.ensures at c.in-Err.ensures in
    rw (c.answer.ensures, c.number-in-Err.ensures, is, number)
    (ap (λ (f : StepForeseen). telling (answer_from f.number f.channel (kind_number f.kind) f.count) f.words)
    (step-refused (state_in a.state.now) m a.lines a.places.now (sym (ap (λ (n : ℕ). eqb n 0) number) ∙ number-some _)))

pub channel-requires : goal.channel-requires
channel-requires c = state-length _ (sym c.is_state.ensures ∙ not-false _ c.if-not-is_state.false-raw)

pub returns-in-Nobody : goal.returns-in-Nobody
unfolding touches_step told_as kind_number
returns-in-Nobody c =
    let a = c.args in
    let m = buffers a.sys.now a.io.now in
    let is : is_state a.state.now ≡ true = sym c.is_state.ensures ∙ not-false _ c.if-not-is_state.false-raw in
    let s = c.looked_at-s.ensures in
    let z : eqb (entry_number (state_in a.state.now) m a.lines) 0 ≡ true = sym (ap (λ (n : ℕ). eqb n 0) (simp s at c.in_default.ensures)) in
    let choice = sym (c.choose.ensures ∙ ap (λ (x : State). choice_of x a.lines) s) in
    rw (c.answer-in-Nobody.ensures, c.number-in-Nobody.ensures, is)
    (ap (λ (f : StepForeseen). telling (answer_from f.number f.channel (kind_number f.kind) f.count) f.words)
    (sym (nobody-told (state_in a.state.now) m a.lines a.places.now z (choice ∙ c.in-Nobody.is)) ∙ step-chosen (state_in a.state.now) m a.lines a.places.now z))

pub returns-in-Ends : goal.returns-in-Ends
unfolding touches_step told_as kind_number
returns-in-Ends c =
    let a = c.args in
    let m = buffers a.sys.now a.io.now in
    let is : is_state a.state.now ≡ true = sym c.is_state.ensures ∙ not-false _ c.if-not-is_state.false-raw in
    let s = c.looked_at-s.ensures in
    let z : eqb (entry_number (state_in a.state.now) m a.lines) 0 ≡ true = sym (ap (λ (n : ℕ). eqb n 0) (simp s at c.in_default.ensures)) in
    let choice = sym (c.choose.ensures ∙ ap (λ (x : State). choice_of x a.lines) s) in
    rw (c.answer-in-Ends.ensures, c.number-in-Ends.ensures, is)
    (ap (λ (f : StepForeseen). telling (answer_from f.number f.channel (kind_number f.kind) f.count) f.words)
    (sym (end-told (state_in a.state.now) m a.lines a.places.now z _ (choice ∙ c.in-Ends.is)) ∙ step-chosen (state_in a.state.now) m a.lines a.places.now z))

pub returns-in-Steps : goal.returns-in-Steps
unfolding touches_step told_as
returns-in-Steps c =
    let a = c.args in
    let m = buffers a.sys.now a.io.now in
    let is : is_state a.state.now ≡ true = sym c.is_state.ensures ∙ not-false _ c.if-not-is_state.false-raw in
    let s = c.looked_at-s.ensures in
    let z : eqb (entry_number (state_in a.state.now) m a.lines) 0 ≡ true = sym (ap (λ (n : ℕ). eqb n 0) (simp s at c.in_default.ensures)) in
    let choice = sym (c.choose.ensures ∙ ap (λ (x : State). choice_of x a.lines) s) in
    rw (c.whole.ensures, is)
    (ap (λ (f : StepForeseen). telling (answer_from f.number f.channel (kind_number f.kind) f.count) f.words)
    (turn-told (state_in a.state.now) m a.lines a.places.now z _ _ (choice ∙ c.in-Steps.is)
    (simp s at (c.turn.ensures (c.channel.ensures ∙ rw s)))))
