-- What a call leaves, from what its parts leave.
-- Assumes nothing.
use Prim.Native.Nat.{ℕ}
use borrow.Author.Tests.{eq-eqb, ne_eqb, eqb-true}
use lib.Dec.{eqb}
use lib.ListN.{length}
use lib.Seq.{sets}
use mathlib.Core.Bool.{true, false}
use mathlib.Core.List.{List}
use mathlib.Core.Path.{◌≡◌, sym, ap, ◌∙◌}
use Rattle.ground_rules.proofs.ChoiceLaws.{apart, both_left}
use Rattle.ground_rules.proofs.OutcomeLaws.{refused-counts}
use Rattle.ground_rules.specs.Buffers.{Buffers}
use Rattle.ground_rules.specs.Outcomes.{Outcome}
use Rattle.ground_rules.specs.States.{reset_state, fresh_of}
use Rattle.ground_rules.specs.declared.Made.{Made}
use Rattle.ground_rules.specs.declared.State.{State}
use Rattle.attention_rules.specs.Attention.{attention_of, attention_count}
use Rattle.attention_rules.proofs.PowerNumbers.{power-number}
use Rattle.attention_rules.proofs.PowerOutcomes.{power-any, power-same, power-refused}
use Rattle.attention_rules.specs.Power.{touched_by_power, power_number, power_up_of, power_count}
use Rattle.turn_rules.specs.Step.{step_of}
use Rattle.state_rules.specs.Layout.{state_rows, bytes_of, state_in, is_state, state_length}
use Rattle.state_rules.specs.Tables.{are_by}
use Rattle.state_rules.specs.Calls.{made, served, answer_from, fresh_made, reset_made, outcome_served, power_served, attention_served, step_served}
use Rattle.state_rules.proofs.LengthLaws.{length-state}
use Rattle.state_rules.proofs.SetsLaws.{sets-whole}

-- bytes that are a state have its length
pub state-length : (b : List ℕ) → is_state b ≡ true → length b ≡ state_length
unfolding is_state
state-length b h = eqb-true (length b) state_length (both_left (eqb (length b) state_length) (are_by state_rows b 0 0) h)

-- a state put into bytes of its length leaves its bytes
pub put_whole : (b : List ℕ) (s : State) → length b ≡ state_length → sets b 0 (bytes_of s) ≡ bytes_of s
put_whole b s e = sets-whole (bytes_of s) b (e ∙ sym (length-state s))

-- such bytes then stand for the state, where it comes back whole
put-stands : (b : List ℕ) (s : State) → length b ≡ state_length → state_in (bytes_of s) ≡ s → state_in (sets b 0 (bytes_of s)) ≡ s
put-stands b s e w = ap state_in (put_whole b s e) ∙ w

-- bytes of another length are left by fresh, others become the fresh state's
pub fresh-short : (b : List ℕ) (cp : ℕ) → ¬ (length b ≡ state_length)
    → (made 17 b ≡ fresh_made b cp) × (length b ≡ state_length → state_in b ≡ (fresh_of cp).state)
unfolding fresh_made
fresh-short b cp ne = (rw (ne_eqb (length b) state_length ne), λ e. absurd (ne e))

pub fresh-made : (b : List ℕ) (cp : ℕ) (a : Made) → length b ≡ state_length → a ≡ fresh_of cp → state_in (bytes_of a.state) ≡ a.state
    → (made (answer_from a.number 0 0 0) (sets b 0 (bytes_of a.state)) ≡ fresh_made b cp)
    × (length b ≡ state_length → state_in (sets b 0 (bytes_of a.state)) ≡ (fresh_of cp).state)
unfolding fresh_made
fresh-made b cp a e p w =
    (rw (eq-eqb (length b) state_length e, put_whole b a.state e, p), λ h. put-stands b a.state e w ∙ ap (λ (x : Made). x.state) p)

-- so it is with reset
pub reset-short : (b : List ℕ) → ¬ (length b ≡ state_length) → (made 17 b ≡ reset_made b) × (length b ≡ state_length → state_in b ≡ reset_state)
unfolding reset_made
reset-short b ne = (rw (ne_eqb (length b) state_length ne), λ e. absurd (ne e))

pub reset-made : (b : List ℕ) (s : State) → length b ≡ state_length → s ≡ reset_state → state_in (bytes_of s) ≡ s
    → (made (answer_from 0 0 0 0) (sets b 0 (bytes_of s)) ≡ reset_made b) × (length b ≡ state_length → state_in (sets b 0 (bytes_of s)) ≡ reset_state)
unfolding reset_made
reset-made b s e p w = (rw (eq-eqb (length b) state_length e, put_whole b s e, p), λ h. put-stands b s e w ∙ p)

-- and with power-up, which leaves bytes that it refuses to look at or that memory is refused for
module _ (b : List ℕ) (m : Buffers) where
  pub power-short : ¬ (length b ≡ state_length) → (served 17 b m ≡ power_served b m) × (length b ≡ state_length → state_in b ≡ (power_up_of (state_in b) m).state)
  unfolding power_served
  power-short ne = (rw (ne_eqb (length b) state_length ne), λ e. absurd (ne e))

  module _ (long : length b ≡ state_length) (o : Outcome) (is : o ≡ power_up_of reset_state m) where
    number_same : o.number ≡ (power_up_of (state_in b) m).number
    number_same = ap (λ (x : Outcome). x.number) is ∙ power-any reset_state (state_in b) m

    pub power-refused-on : ¬ (o.number ≡ 0)
        → (served (answer_from o.number 0 0 0) b o.memory ≡ power_served b m) × (length b ≡ state_length → state_in b ≡ (power_up_of (state_in b) m).state)
    unfolding power_served power_count
    power-refused-on ne =
        let same : power_number m ≡ o.number = sym (power-number reset_state m) ∙ sym (ap (λ (x : Outcome). x.number) is) in
        let none : power_count m ≡ 0 = refused-counts (power_number m) (touched_by_power m) (λ z. ne (sym same ∙ z)) in (
          rw (eq-eqb (length b) state_length long, none, ← is, ne_eqb o.number 0 ne),
          λ e. sym (ap (λ (x : Outcome). x.state) (power-refused (state_in b) m (λ z. ne (number_same ∙ z)))),
        )

    pub power-done-on : (k : ℕ) → k ≡ power_count m → o.number ≡ 0 → state_in (bytes_of o.state) ≡ o.state
        → (served (answer_from 0 0 0 k) (sets b 0 (bytes_of o.state)) o.memory ≡ power_served b m)
        × (length b ≡ state_length → state_in (sets b 0 (bytes_of o.state)) ≡ (power_up_of (state_in b) m).state)
    unfolding power_served
    power-done-on k q z w = (
      rw (eq-eqb (length b) state_length long, put_whole b o.state long, q, ← is, z),
      λ e. put-stands b o.state long w ∙ ap (λ (x : Outcome). x.state) (is ∙ power-same reset_state (state_in b) m (sym (ap (λ (x : Outcome). x.number) is) ∙ z)),
    )

module _ (b : List ℕ) (m : Buffers) where
  -- bytes that are no state are left by an attention and a step, with both memories
  outcome-none : (o : Outcome) (count : ℕ) → is_state b ≡ false → (served 17 b m ≡ outcome_served o count b m) × (is_state b ≡ true → state_in b ≡ o.state)
  outcome-none o count h = (rw h, λ e. apart (sym e ∙ h))

  pub attention-none : (channel : ℕ) → is_state b ≡ false
      → (served 17 b m ≡ attention_served b m channel) × (is_state b ≡ true → state_in b ≡ (attention_of (state_in b) m channel).state)
  unfolding attention_served
  attention-none channel = outcome-none (attention_of (state_in b) m channel) (attention_count (state_in b) m channel)

  pub step-none : (lines : ℕ) → is_state b ≡ false
      → (served 17 b m ≡ step_served b m lines) × (is_state b ≡ true → state_in b ≡ (step_of (state_in b) m lines).state)
  unfolding step_served
  step-none lines h = (rw h, λ e. apart (sym e ∙ h))

  module _ (h : is_state b ≡ true) where
    -- others become the bytes of what the call left
    outcome-served : (o left : Outcome) (k count : ℕ) → o ≡ left → k ≡ count → state_in (bytes_of o.state) ≡ o.state
        → (served (answer_from o.number 0 0 k) (sets b 0 (bytes_of o.state)) o.memory ≡ outcome_served left count b m)
        × (is_state b ≡ true → state_in (sets b 0 (bytes_of o.state)) ≡ left.state)
    outcome-served o left k count p q w =
        (rw (h, put_whole b o.state (state-length b h), p, q), λ e. put-stands b o.state (state-length b h) w ∙ ap (λ (x : Outcome). x.state) p)

    pub attention-served : (channel : ℕ) (o : Outcome) (k : ℕ) → o ≡ attention_of (state_in b) m channel → k ≡ attention_count (state_in b) m channel
        → state_in (bytes_of o.state) ≡ o.state
        → (served (answer_from o.number 0 0 k) (sets b 0 (bytes_of o.state)) o.memory ≡ attention_served b m channel)
        × (is_state b ≡ true → state_in (sets b 0 (bytes_of o.state)) ≡ (attention_of (state_in b) m channel).state)
    unfolding attention_served
    attention-served channel o k = outcome-served o (attention_of (state_in b) m channel) k (attention_count (state_in b) m channel)
