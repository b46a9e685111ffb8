-- `execute::execute` meets its contract.
-- Assumes nothing.
use Rattle.std.proofs.Common.{◌≡◌, ℕ, Bool, sym, refl, ap, ◌∙◌, ap₂, arith, Result, Ok, Err, Some, None, Option}
use Rattle.std.proofs.lemmas.Result.{err_from_is_err_and}
use borrow.Author.Tests.{not-true, not-false, eqb-false}
use Rattle.ground_rules.specs.Buffers.{Buffers, buffers}
use Rattle.ground_rules.specs.Places.{all_touchable}
use Rattle.ground_rules.specs.Choice.{pick}
use Rattle.ground_rules.specs.Refusals.{number_of}
use Rattle.ground_rules.proofs.RefusalLaws.{number-positive}
use Rattle.ground_rules.specs.Registers.{with_register}
use Rattle.ground_rules.specs.declared.Channel.{Channel}
use Rattle.ground_rules.specs.declared.Refusal.{Refusal}
use Rattle.instruction_rules.specs.Changes.{places_of, changed}
use Rattle.instruction_rules.specs.declared.Change.{Change}
use Rattle.instruction_rules.specs.Execute.{executed, execute_of, execute_count}
use Rattle.execute.specs.Effects.{channel_worked, change_in}
use Rattle.execute.specs.Plan.{plan_number}
use Rattle.execute.specs.Writes.{write_made}
use Rattle.execute.specs.declared.Write.{Write}
use Rattle.execute.proofs.CodeLaws.{plan-refused, plan-passed, plan-done, plan-unstored, none-counted, plan-most, plan-counted}
use Rattle.execute.proofs.execute.Goals as goal

-- a plan that is refused is the outcome
refused : (m : Buffers) (c : Channel) (busy : ℕ) (r : Refusal) → number_of r ≡ plan_number m c busy → (executed (number_of r) c m ≡ execute_of c busy m) × (0 ≡ execute_count c busy m)
refused m c busy r told =
    let ne : plan_number m c busy ≡ 0 → ⊥ = λ z. number-positive r (told ∙ z) in
    let by = plan-refused m c busy ne in
    (ap (λ (n : ℕ). executed n c m) told ∙ sym by, none-counted m c busy (plan_number m c busy) by ne)

pub returns-in_err-e : goal.returns-in_err-e
returns-in_err-e c =
    let a = c.args in
    let m = buffers a.sys.now a.io.now in
    let p = err_from_is_err_and c.from_residual.result c.from_residual.ensures.1 in
    let both = refused m a.c a.busy _ c.in_err-e.ensures in
    rw (p.1, p.2) (record { left = both.0; count = both.1 })

pub returns-then-not-made : goal.returns-then-not-made
returns-then-not-made c =
    let a = c.args in
    let m = buffers a.sys.now a.io.now in
    let e = c.in_ok-e.e in
    let p = c.in_ok-e.ensures in
    let made = c.made in
    let not_made = not-true made.result c.if-not-made.true-raw in
    let beyond = ap (λ (x : Change). all_touchable m (places_of x)) (sym p.carries.change) ∙ sym made.ensures.told ∙ not_made in
    let refused = plan-unstored m a.c a.busy p.told beyond in
    record { left = ap (executed 2 a.c) (made.ensures.stored ∙ ap (λ (x : Bool). pick x (changed m (change_in e)) m) not_made) ∙ sym refused; count = none-counted m a.c a.busy 2 refused (eqb-false 2 0 refl) }

pub overflow_add-count : goal.overflow_add-count
overflow_add-count c =
    let a = c.args in
    let m = buffers a.sys.now a.io.now in
    let p = c.in_ok-e.ensures in
    omega (arith, plan-most m a.c a.busy c.in_ok-e.e p.reads p.carries.change)

pub returns-in_default : goal.returns-in_default
unfolding write_made
returns-in_default c =
    let a = c.args in
    let m = buffers a.sys.now a.io.now in
    let e = c.in_ok-e.e in
    let p = c.in_ok-e.ensures in
    let made = c.made in
    let is_made = not-false made.result c.if-not-made.false-raw in
    let touchable = ap (λ (x : Change). all_touchable m (places_of x)) (sym p.carries.change) ∙ sym made.ensures.told ∙ is_made in record {
      left = ap₂ (executed 0)
          (c.after-next.ensures ∙ ap (λ (w : Option Write). write_made (channel_worked a.c e) w) (sym c.in_default.is) ∙ p.carries.channel)
          (made.ensures.stored ∙ ap (λ (x : Bool). pick x (changed m (change_in e)) m) is_made ∙ ap (changed m) p.carries.change)
          ∙ sym (plan-done m a.c a.busy p.told touchable);
      count = plan-counted m a.c a.busy e p.reads p.carries.change (plan-passed m a.c a.busy p.told touchable);
    }

pub returns : goal.returns
unfolding write_made
returns c =
    let a = c.args in
    let m = buffers a.sys.now a.io.now in
    let e = c.in_ok-e.e in
    let p = c.in_ok-e.ensures in
    let made = c.made in
    let w = c.in-Some.write in
    let is_made = not-false made.result c.if-not-made.false-raw in
    let touchable = ap (λ (x : Change). all_touchable m (places_of x)) (sym p.carries.change) ∙ sym made.ensures.told ∙ is_made in record {
      left = ap₂ (executed 0)
          (c.with.ensures ∙ ap (λ (x : Channel). with_register x w.rrr w.value w.tag) c.after-next.ensures ∙ ap (λ (w : Option Write). write_made (channel_worked a.c e) w) (sym c.in-Some.is) ∙ p.carries.channel)
          (made.ensures.stored ∙ ap (λ (x : Bool). pick x (changed m (change_in e)) m) is_made ∙ ap (changed m) p.carries.change)
          ∙ sym (plan-done m a.c a.busy p.told touchable);
      count = plan-counted m a.c a.busy e p.reads p.carries.change (plan-passed m a.c a.busy p.told touchable);
    }
