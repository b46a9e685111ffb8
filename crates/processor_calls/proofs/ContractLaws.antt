-- Every contract that is the equation with a lifted call keeps what is promised.
-- Assumes nothing.
use Prim.Native.Nat.{ℕ}
use mathlib.Core.List.{List}
use mathlib.Core.Logic.{◌↔◌}
use mathlib.Core.Path.{◌≡◌, sym, ap, subst, ◌∙◌}
use Rattle.ground_rules.specs.Buffers.{Buffers}
use Rattle.ground_rules.specs.Conditions.{Check, Given}
use Rattle.processor_rules.proofs.LiftLaws.{Stays, lifts, lifted-none, lifted-exactly, lifted-refused}
use Rattle.processor_rules.specs.Lifting.{Called, Lifted, lifted_to, lifted}
use Rattle.processor_rules.specs.Lifts.{seen_by, LeftAlone, checks_on}
use Rattle.processor_rules.specs.Processors.{processor_of, buffers_of}
use Rattle.processor_calls.specs.PairContracts.{PairContract, name_in, IsLifted, GoesToOne, NumbersOfOne}

module _ {S A : Type 0} {c : PairContract S A} {twelve : c.Rest → A} {single : c.Rest → S → Buffers → Called S A} (e : IsLifted c twelve single) where
  pub goes-to-one : GoesToOne c twelve single
  goes-to-one =
      record {
        kept = λ x.
            subst (LeftAlone _ (c.states x) (c.memory x)) (sym (e.is x)) ((lifts (single (c.rest x)) (twelve (c.rest x))).kept (c.states x) (c.memory x) (c.processor x));
        own = λ x which h.
            ap (seen_by which) (e.is x ∙ ap (lifted (twelve (c.rest x)) (single (c.rest x)) (c.states x) (c.memory x)) h)
            ∙ (lifts (single (c.rest x)) (twelve (c.rest x))).own (c.states x) (c.memory x) which;
        same = λ x y g f h.
            ap (seen_by (name_in c x)) (e.is y ∙ as-if x y g f)
            ∙ (lifts (single (c.rest x)) (twelve (c.rest x))).same (c.states x) (c.memory x) (c.states y) (c.memory y) (c.processor x) h
            ∙ sym (ap (seen_by (name_in c x)) (e.is x));
        none = λ x h. e.is x ∙ lifted-none (single (c.rest x)) (twelve (c.rest x)) (c.states x) (c.memory x) (c.processor x) h;
        one = λ x y g f k h. e.is y ∙ as-if x y g f ∙ (λ i. lifted (twelve (c.rest x)) (single (c.rest x)) (k i) (h i) (c.processor x)) ∙ sym (e.is x);
      }
    where
      -- the call of the one with what else the other was given
      as-if : (x y : c.Met) → c.processor y ≡ c.processor x → c.rest y ≡ c.rest x
          → lifted (twelve (c.rest y)) (single (c.rest y)) (c.states y) (c.memory y) (c.processor y)
          ≡ lifted (twelve (c.rest x)) (single (c.rest x)) (c.states y) (c.memory y) (c.processor x)
      as-if x y g f = λ i. lifted (twelve (f i)) (single (f i)) (c.states y) (c.memory y) (g i)

  -- its numbers, given the single call's, and that one which gives a number leaves a state of this sort
  pub numbers-of-one : (number : A → ℕ) (checks : c.Rest → S → Buffers → List Check) (Sort : S → Type 0) → ((a : c.Rest) → number (twelve a) ≡ 12)
      → ((a : c.Rest) (s : S) (m : Buffers) (n : ℕ) → (number (single a s m).answer ≡ n) ↔ Given (checks a s m) n)
      → ((a : c.Rest) (s : S) (m : Buffers) → Sort s → ¬ (number (single a s m).answer ≡ 0) → Stays (single a) s m) → NumbersOfOne c number checks Sort
  numbers-of-one number checks Sort is-12 given stays =
      record {
        exactly = λ x n.
            subst (λ (o : Lifted S A). (number o.answer ≡ n) ↔ Given (checks_on (checks (c.rest x)) (c.states x) (c.memory x) (c.processor x)) n) (sym (e.is x))
            (lifted-exactly (single (c.rest x)) (twelve (c.rest x)) number (checks (c.rest x)) (is-12 (c.rest x)) (given (c.rest x)) (c.states x) (c.memory x) (c.processor x) n);
        refused = λ x h.
            subst (λ (o : Lifted S A). ¬ (number o.answer ≡ 0) → o ≡ lifted_to o.answer (c.states x) (c.memory x)) (sym (e.is x))
            (lifted-refused (single (c.rest x)) (twelve (c.rest x)) number (c.states x) (c.memory x) (c.processor x)
            (stays (c.rest x) (processor_of (c.states x) (name_in c x)) (buffers_of (c.memory x) (name_in c x)) h));
      }
