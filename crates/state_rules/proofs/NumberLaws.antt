-- The answer of a call: its parts can be taken out again, and its number is given exactly under its condition, 17 before all others.
-- Assumes nothing.
use Prim.Native.Nat.{ℕ, ◌/◌, ◌%◌, ◌<◌, ◌≤◌}
use lib.Dec.{eqb, ltb}
use lib.ListN.{length}
use mathlib.Core.Bool.{Bool, true, false}
use mathlib.Core.List.{List}
use mathlib.Core.Logic.{◌⊎◌, ◌↔◌}
use mathlib.Core.Path.{◌≡◌, refl, sym, ◌∙◌}
use native.Mathlib.Omega.{arith}
use Rattle.ground_rules.specs.Choice.{pick}
use Rattle.ground_rules.specs.Buffers.{Buffers}
use Rattle.ground_rules.proofs.ConditionLaws.{Told, told_and, told-eqb, told-ltb, picked, last, rewritten, worded, first-largest}
use Rattle.ground_rules.specs.Conditions.{Given}
use Rattle.ground_rules.specs.Outcomes.{unless}
use Rattle.ground_rules.specs.States.{fresh_state, reset_state, fresh_of}
use Rattle.ground_rules.specs.declared.Made.{Made}
use Rattle.attention_rules.proofs.Numbers.{given-exactly, attention-most}
use Rattle.attention_rules.specs.Attention.{attention_of, attention_count}
use Rattle.attention_rules.proofs.PowerNumbers.{power-given, power-most}
use Rattle.attention_rules.specs.Power.{power_up_of, power_count}
use Rattle.turn_rules.proofs.NumberLaws.{number-given, step-few, step-most}
use Rattle.turn_rules.specs.Conditions.{step_checks}
use Rattle.turn_rules.specs.Step.{step_of}
use Rattle.turn_rules.specs.Touched.{step_count}
use Rattle.sweep_rules.proofs.ConditionLaws.{sweep-given}
use Rattle.sweep_rules.proofs.PassedLaws.{number_is, number-most}
use Rattle.sweep_rules.specs.Sweep.{sweep_of}
use Rattle.state_rules.specs.Calls.{made, served, no_state, kind_number, answer_from, fresh_made, reset_made, power_served, attention_served, step_served, sweep_answer_from, sweep_served}
use Rattle.state_rules.specs.Conditions.{NoState, fresh_checks_on, reset_checks_on, power_checks_on, attention_checks_on, step_checks_on, sweep_checks_on}
use Rattle.state_rules.specs.Layout.{state_rows, bytes_of, state_in, is_state, state_length}
use Rattle.state_rules.proofs.FormLaws.{state-laws}
use Rattle.state_rules.proofs.TableLaws.{told-rows}

-- ---- the parts of an answer

module _ (number channel kind count : ℕ) where
  -- bits 0 to 7, 8 and 9, 10 and 11, 12 to 15
  pub number-part : number < 256 → answer_from number channel kind count % 256 ≡ number
  unfolding answer_from
  number-part h = omega arith

  pub channel-part : channel < 4 → answer_from number channel kind count / 256 % 4 ≡ channel
  unfolding answer_from
  channel-part h = omega arith

  pub kind-part : kind < 4 → answer_from number channel kind count / 1024 % 4 ≡ kind
  unfolding answer_from
  kind-part h = omega arith

  pub count-part : count < 16 → answer_from number channel kind count / 4096 ≡ count
  unfolding answer_from
  count-part h = omega arith

module _ (number steps count : ℕ) (n : number < 256) (k : steps < 16777216) where
  -- of a sweep's answer: bits 0 to 7, 8 to 31, and those above
  pub sweep-number-part : sweep_answer_from number steps count % 256 ≡ number
  unfolding sweep_answer_from
  sweep-number-part = omega arith

  pub sweep-steps-part : sweep_answer_from number steps count / 256 % 16777216 ≡ steps
  unfolding sweep_answer_from
  sweep-steps-part = omega arith

  pub sweep-count-part : sweep_answer_from number steps count / 4294967296 ≡ count
  unfolding sweep_answer_from
  sweep-count-part = omega arith

-- ---- 17

-- the test of 17 says what its condition says
pub told-state : (b : List ℕ) → Told (is_state b) (NoState b)
unfolding is_state
told-state b = told_and (told-eqb (length b) state_length) (told-rows state_rows state-laws b 0 0)

-- a number that is 17 for bytes that are no state, and the call's otherwise
pub told-17 : {A Q : Type 0} (ok : Bool) (n number answer : ℕ) → Told ok A → answer ≡ pick ok number 17 → (number ≡ n ↔ Q) → (answer ≡ n) ↔ ((A × (n ≡ 17)) ⊎ (¬ A × Q))
told-17 ok n number answer t e q = rewritten e (picked 17 t q)

-- what a call answers, whether its bytes are a state or not
answer-number : (ok : Bool) (number channel kind count : ℕ) (bytes b : List ℕ) (m' m : Buffers) → number ≤ 14
    → (pick ok (served (answer_from number channel kind count) bytes m') (no_state b m)).answer % 256 ≡ pick ok number 17
answer-number true number channel kind count bytes b m' m h = number-part number channel kind count (omega arith)
answer-number false number channel kind count bytes b m' m h = refl

-- the number of a fresh state: 17, then 10
fresh-number : (cp : ℕ) → (fresh_of cp).number ≡ unless (ltb cp 1048576) 10
unfolding fresh_of unless
fresh-number cp = go (ltb cp 1048576)
  where
    go : (ok : Bool) → (pick {A = Made} ok (record { number = 0; state = fresh_state cp }) (record { number = 10; state = fresh_state 0 })).number ≡ pick ok 0 10
    go true = refl
    go false = refl

unless-small : (ok : Bool) → unless ok 10 < 256
unfolding unless
unless-small true = omega arith
unless-small false = omega arith

pub fresh-given : (b : List ℕ) (cp n : ℕ) → ((fresh_made b cp).answer % 256 ≡ n) ↔ Given (fresh_checks_on b cp) n
unfolding fresh_made
fresh-given b cp n =
    told-17 (eqb (length b) state_length) n (fresh_of cp).number ((fresh_made b cp).answer % 256) (told-eqb (length b) state_length) (part (eqb (length b) state_length))
    (rewritten (fresh-number cp) (last n 10 refl (told-ltb cp 1048576)))
  where
    part : (ok : Bool) → (pick ok (made (answer_from (fresh_of cp).number 0 0 0) (bytes_of (fresh_of cp).state)) (made 17 b)).answer % 256 ≡ pick ok (fresh_of cp).number 17
    part true = number-part (fresh_of cp).number 0 0 0 (rw (fresh-number cp) (unless-small (ltb cp 1048576)))
    part false = refl

-- reset: 17, else 0
pub reset-given : (b : List ℕ) (n : ℕ) → ((reset_made b).answer % 256 ≡ n) ↔ Given (reset_checks_on b) n
unfolding reset_made answer_from
reset-given b n = told-17 (eqb (length b) state_length) n 0 ((reset_made b).answer % 256) (told-eqb (length b) state_length) (part (eqb (length b) state_length)) (sym, sym)
  where
    part : (ok : Bool) → (pick ok (made (answer_from 0 0 0 0) (bytes_of reset_state)) (made 17 b)).answer % 256 ≡ pick ok 0 17
    part true = refl
    part false = refl

module _ (b : List ℕ) (m : Buffers) where
  power-number : (power_served b m).answer % 256 ≡ pick (eqb (length b) state_length) (power_up_of reset_state m).number 17
  unfolding power_served
  power-number =
      let o = power_up_of reset_state m in
      answer-number (eqb (length b) state_length) o.number 0 0 (power_count m) _ b o.memory m (omega (arith, power-most reset_state m))

  -- the number of a power-up: 17 for the length, then 11 and 2, whatever the bytes were
  pub power-given-on : (n : ℕ) → ((power_served b m).answer % 256 ≡ n) ↔ Given (power_checks_on b m) n
  power-given-on n =
      told-17 (eqb (length b) state_length) n (power_up_of reset_state m).number ((power_served b m).answer % 256) (told-eqb (length b) state_length)
      power-number (power-given reset_state m n)

  attention-number : (channel : ℕ) → (attention_served b m channel).answer % 256 ≡ pick (is_state b) (attention_of (state_in b) m channel).number 17
  unfolding attention_served
  attention-number channel =
      let o = attention_of (state_in b) m channel in
      answer-number (is_state b) o.number 0 0 (attention_count (state_in b) m channel) (bytes_of o.state) b o.memory m (attention-most (state_in b) m channel)

  -- the number of an attention: 17, then those of attention on the state, in their order
  pub attention-given : (channel n : ℕ) → ((attention_served b m channel).answer % 256 ≡ n) ↔ Given (attention_checks_on b m channel) n
  attention-given channel n =
      told-17 (is_state b) n (attention_of (state_in b) m channel).number ((attention_served b m channel).answer % 256) (told-state b)
      (attention-number channel) (given-exactly (state_in b) m channel n)

  step-number : (lines : ℕ) → (step_served b m lines).answer % 256 ≡ pick (is_state b) (step_of (state_in b) m lines).number 17
  unfolding step_served
  step-number lines =
      let o = step_of (state_in b) m lines in
      answer-number (is_state b) o.number o.channel (kind_number o.kind) (step_count (state_in b) m lines) (bytes_of o.state) b o.memory m (step-most (state_in b) m lines)

  -- the number of a step: 17, then those of the step on the state, in their order
  pub step_given : (lines n : ℕ) → ((step_served b m lines).answer % 256 ≡ n) ↔ Given (step_checks_on b m lines) n
  step_given lines n =
      told-17 (is_state b) n (step_of (state_in b) m lines).number ((step_served b m lines).answer % 256) (told-state b)
      (step-number lines) (number-given (state_in b) m lines n)

  -- 17 exactly where the bytes are no state
  pub attention-17 : (channel : ℕ) → ((attention_served b m channel).answer % 256 ≡ 17) ↔ NoState b
  attention-17 channel = worded (attention_checks_on b m channel) 17 (attention-given channel 17)

  pub step-17 : (lines : ℕ) → ((step_served b m lines).answer % 256 ≡ 17) ↔ NoState b
  step-17 lines = first-largest 14 17 (step_checks (state_in b) m lines) (step-few (state_in b) m lines) (omega arith) (step_given lines 17)

-- ---- a sweep

-- its number comes out of its answer whatever the steps are
sweep-low : (ok : Bool) (number steps count : ℕ) (bytes b : List ℕ) (m' m : Buffers) → number < 256
    → (pick ok (served (sweep_answer_from number steps count) bytes m') (no_state b m)).answer % 256 ≡ pick ok number 17
unfolding sweep_answer_from
sweep-low true number steps count bytes b m' m h = omega arith
sweep-low false number steps count bytes b m' m h = refl

module _ (b : List ℕ) (m : Buffers) (channel lines : ℕ) where
  sweep-most : (sweep_of (state_in b) m channel lines).number ≤ 15
  sweep-most = omega (arith, number_is (state_in b) m channel lines, number-most (state_in b) m channel lines)

  sweep-number : (sweep_served b m channel lines).answer % 256 ≡ pick (is_state b) (sweep_of (state_in b) m channel lines).number 17
  unfolding sweep_served
  sweep-number =
      let o = sweep_of (state_in b) m channel lines in
      sweep-low (is_state b) o.number o.steps o.count (bytes_of o.state) b o.memory m (omega (arith, sweep-most))

  -- 17, then those of the sweep on the state, in their order
  pub sweep-given-on : (n : ℕ) → ((sweep_served b m channel lines).answer % 256 ≡ n) ↔ Given (sweep_checks_on b m channel lines) n
  sweep-given-on n =
      told-17 (is_state b) n (sweep_of (state_in b) m channel lines).number ((sweep_served b m channel lines).answer % 256) (told-state b) sweep-number
      (rewritten (number_is (state_in b) m channel lines) (sweep-given (state_in b) m channel lines n))

  pub sweep-17 : ((sweep_served b m channel lines).answer % 256 ≡ 17) ↔ NoState b
  sweep-17 = worded (sweep_checks_on b m channel lines) 17 (sweep-given-on 17)
