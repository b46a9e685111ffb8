-- `step::step` meets its contract.
-- Assumes nothing.
use Rattle.std.proofs.Common.{◌≡◌, ℕ, eqb, sym, ap, refl, ◌∙◌, Bool, Ok, Err, Result}
use Rattle.std.proofs.lemmas.Result.{err_from_is_err_and}
use borrow.Author.Tests.{eq-eqb}
use Rattle.ground_rules.proofs.OutcomeLaws.{refused-counts}
use Rattle.ground_rules.proofs.RefusalLaws.{number-some, number-positive}
use Rattle.ground_rules.specs.Buffers.{Buffers, buffers}
use Rattle.ground_rules.specs.Choice.{pick}
use Rattle.ground_rules.specs.Outcomes.{counted}
use Rattle.ground_rules.specs.Refusals.{answered, number_of}
use Rattle.ground_rules.specs.declared.Refusal.{Refusal}
use Rattle.ground_rules.specs.declared.State.{State}
use Rattle.turn_rules.specs.declared.Choice.{Choice}
use Rattle.turn_rules.specs.declared.Stepped.{Stepped}
use Rattle.turn_rules.specs.Step.{Step, stepped_by, refused_step, chosen_step, entry_number, step_of}
use Rattle.turn_rules.specs.Choosing.{choice_of}
use Rattle.turn_rules.specs.Touched.{touched_in, touched_by_step, step_count}
use Rattle.step.proofs.step.Goals as goal

-- what is refused for what it is given is the outcome, and counts nothing
refused : (s : State) (m : Buffers) (lines : ℕ) (r : Refusal) → number_of r ≡ entry_number s m lines → (refused_step (number_of r) s m ≡ step_of s m lines) × (0 ≡ step_count s m lines)
unfolding step_of step_count
refused s m lines r e =
    let is : refused_step (number_of r) s m ≡ step_of s m lines =
    ap (λ (b : Bool). pick b (chosen_step (choice_of s lines) s m) (refused_step (number_of r) s m)) (sym (number-some r))
    ∙ ap (λ (n : ℕ). pick (eqb n 0) (chosen_step (choice_of s lines) s m) (refused_step n s m)) e in
    (is, sym (refused-counts (step_of s m lines).number (touched_by_step s m lines) (λ z. number-positive r (ap (λ (x : Step). x.number) is ∙ z))))

-- the number of an answer is that of what it leaves
number-left : (s : State) (r : Result Stepped Refusal) (m : Buffers) → answered r ≡ (stepped_by s r m).number
number-left s (Ok a) m = refl
number-left s (Err e) m = refl

pub returns-in_err-check_entry : goal.returns-in_err-check_entry
returns-in_err-check_entry c =
    let a = c.args in
    let p = err_from_is_err_and c.from_residual.result c.from_residual.ensures.1 in
    let both = refused a.s (buffers a.sys.now a.io.now) a.lines _ c.in_err-check_entry.ensures in
    rw (p.1, p.2) (record { left = both.0; count = both.1 })

pub returns : goal.returns
unfolding step_of step_count touched_by_step
returns c =
    let a = c.args in
    let m = buffers a.sys.now a.io.now in
    let r = c.chosen in
    let who = c.choose.ensures in
    let e : stepped_by a.s r.result (buffers r.new.sys r.new.io) ≡ step_of a.s m a.lines =
    r.ensures.left
    ∙ ap (λ (x : Choice). chosen_step x a.s m) who
    ∙ rw (eq-eqb (entry_number a.s m a.lines) 0 (sym c.in_ok-check_entry.ensures)) in record {
      left = e;
      count = r.ensures.count
          ∙ ap (λ (x : Choice). counted (answered r.result) (touched_in x a.s m)) who
          ∙ ap (λ (n : ℕ). counted n (touched_by_step a.s m a.lines)) (number-left a.s r.result (buffers r.new.sys r.new.io) ∙ ap (λ (x : Step). x.number) e);
    }
