-- The bounds of a run: its number is at most 12, since a state from a CP counts as powered up and agrees, and its steps at most the limit, so both can be taken back out of the answer.
-- Assumes nothing.
use Prim.Native.Nat.{ℕ, zero, suc, ◌+◌, ◌*◌, ◌/◌, ◌%◌, ◌<◌, ◌≤◌}
use lib.Dec.{eqb, ltb, lit≤}
use mathlib.Core.Bool.{Bool, true, false, ◌&&◌}
use mathlib.Core.Path.{◌≡◌, refl, sym, ap, subst, ◌∙◌}
use native.Mathlib.Decide.{ℕ_discrete, dec_lt}
use native.Mathlib.Nat.{mod-eq_of_lt}
use native.Mathlib.Omega.{arith}
use Rattle.attention_rules.proofs.Numbers.{attention-ready}
use Rattle.attention_rules.proofs.SoundLaws.{attention-agree}
use Rattle.attention_rules.proofs.Outcomes.{shared_kept}
use Rattle.attention_rules.specs.Attention.{attention_of}
use Rattle.ground_rules.proofs.FieldLaws.{blank-agree}
use Rattle.ground_rules.specs.Conditions.{Ready}
use Rattle.ground_rules.specs.Outcomes.{unless, first}
use Rattle.ground_rules.specs.States.{board_with, fresh_state, agree, is_channel}
use Rattle.ground_rules.specs.declared.Board.{Board}
use Rattle.ground_rules.specs.declared.State.{State}
use Rattle.ground_rules.specs.Buffers.{Buffers, within_limits}
use Rattle.turn_rules.proofs.NumberLaws.{step-ready}
use Rattle.turn_rules.proofs.OutcomeLaws.{board-kept}
use Rattle.turn_rules.proofs.SoundLaws.{step-agree}
use Rattle.turn_rules.specs.Step.{step_of}
use Rattle.ground_rules.specs.Choice.{pick}
use Rattle.run_rules.specs.Run.{Run, ran, steps_from, attended_run, call_number, run_of, answer_of}
use Rattle.run_rules.proofs.Outcomes.{refused-call, refused-cp, refused-attention, accepted-attention}
use Rattle.run_rules.proofs.RunLaws.{call-limit}

-- ---- the numbers

-- the number of the call itself is at most 12
pub call-most : (m : Buffers) (channel lines limit : ℕ) → call_number m channel lines limit ≤ 12
unfolding call_number first unless
call-most m channel lines limit = go (is_channel channel && ltb lines 16 && ltb limit 65536) (within_limits m)
  where
    go : (a b : Bool) → first (unless a 12) (unless b 11) ≤ 12
    go true true = lit≤ tt
    go true false = lit≤ tt
    go false b = lit≤ tt

-- ---- the steps

-- what holds of both of two runs holds of either
either : (P : Run → Type 0) (b : Bool) (r q : Run) → P r → P q → P (pick b r q)
either P true r q p p' = p
either P false r q p p' = p'

-- a state of the same board that agrees is powered up where the other is
still-ready : (s s' : State) → s'.board ≡ s.board → agree s' ≡ true → Ready s → Ready s'
still-ready s s' e a r = (ap (λ (x : Board). x.powered) e ∙ r.0, a)

stepped-ready : (s : State) (m : Buffers) (lines : ℕ) → Ready s → Ready (step_of s m lines).state
stepped-ready s m lines r = still-ready s (step_of s m lines).state (board-kept s m lines) (step-agree s m lines r.1) r

pub attended-ready : (s : State) (m : Buffers) (channel : ℕ) → Ready s → Ready (attention_of s m channel).state
attended-ready s m channel r = still-ready s (attention_of s m channel).state (shared_kept s m channel).2 (attention-agree s m channel r.1) r

-- the steps' number is one of a step's of a state that is powered up and agrees, or 0
steps-number : (left : ℕ) (s : State) (m : Buffers) (lines done : ℕ) → Ready s → (steps_from left s m lines done).number ≤ 12
unfolding steps_from
steps-number zero s m lines done r = lit≤ tt
steps-number (suc left) s m lines done r =
    let o = step_of s m lines in
    either (λ r. r.number ≤ 12) (eqb o.number 0) (steps_from left o.state o.memory lines (done + 1)) (ran o.number done o.memory)
    (steps-number left o.state o.memory lines (done + 1) (stepped-ready s m lines r)) (step-ready s m lines r)

-- no more than those that are left are done
steps-done : (left : ℕ) (s : State) (m : Buffers) (lines done : ℕ) → (steps_from left s m lines done).steps ≤ done + left
unfolding steps_from
steps-done zero s m lines done = omega arith
steps-done (suc left) s m lines done =
    let o = step_of s m lines in
    either (λ r. r.steps ≤ done + suc left) (eqb o.number 0) (steps_from left o.state o.memory lines (done + 1)) (ran o.number done o.memory)
    (omega (arith, steps-done left o.state o.memory lines (done + 1))) (omega arith)

-- ---- the attention and the steps

module _ (s : State) (m : Buffers) (channel lines limit : ℕ) where
  -- of a state that is powered up and agrees their number is at most 12
  pub attended-most : Ready s → (attended_run (attention_of s m channel) lines limit).number ≤ 12
  unfolding attended_run
  attended-most p =
      let o = attention_of s m channel in
      either (λ r. r.number ≤ 12) (eqb o.number 0) (steps_from limit o.state o.memory lines 0) (ran o.number 0 o.memory)
      (steps-number limit o.state o.memory lines 0 (attended-ready s m channel p)) (attention-ready s m channel p)

  -- and no more are done than the limit
  pub attended-steps : (attended_run (attention_of s m channel) lines limit).steps ≤ limit
  unfolding attended_run
  attended-steps =
      let o = attention_of s m channel in
      either (λ r. r.steps ≤ limit) (eqb o.number 0) (steps_from limit o.state o.memory lines 0) (ran o.number 0 o.memory)
      (omega (arith, steps-done limit o.state o.memory lines 0)) (omega arith)

-- ---- the run

module _ (m : Buffers) (cp channel lines limit : ℕ) where
  fresh_on : Ready (fresh_state cp)
  unfolding fresh_state
  fresh_on = (refl, blank-agree cp (board_with true false false false))

  -- what holds of a run that is refused before its steps, and of the steps of a state that is powered up and agrees under a limit of sixteen bits, holds of the run
  pub run_by : (P : Run → Type 0) → ((n : ℕ) → n ≤ 12 → P (ran n 0 m)) → (limit < 65536 → (s : State) (m' : Buffers) → Ready s → P (steps_from limit s m' lines 0))
      → P (run_of m cp channel lines limit)
  run_by P refused steps = called (ℕ_discrete (call_number m channel lines limit) 0)
    where
      attended : call_number m channel lines limit ≡ 0 → cp < 1048576 → Dec ((attention_of (fresh_state cp) m channel).number ≡ 0) → P (run_of m cp channel lines limit)
      attended e h (yes a) =
          subst P (sym (accepted-attention m cp channel lines limit e h a))
          (steps (call-limit m channel lines limit e) (attention_of (fresh_state cp) m channel).state (attention_of (fresh_state cp) m channel).memory
          (attended-ready (fresh_state cp) m channel fresh_on))
      attended e h (no a) =
          subst P (sym (refused-attention m cp channel lines limit e h a))
          (refused (attention_of (fresh_state cp) m channel).number (attention-ready (fresh_state cp) m channel fresh_on))

      fresh : call_number m channel lines limit ≡ 0 → Dec (cp < 1048576) → P (run_of m cp channel lines limit)
      fresh e (yes h) = attended e h (ℕ_discrete (attention_of (fresh_state cp) m channel).number 0)
      fresh e (no h) = subst P (sym (refused-cp m cp channel lines limit e (omega arith))) (refused 10 (lit≤ tt))

      called : Dec (call_number m channel lines limit ≡ 0) → P (run_of m cp channel lines limit)
      called (yes e) = fresh e (dec_lt cp 1048576)
      called (no e) =
          subst P (sym (refused-call m cp channel lines limit e))
          (refused (call_number m channel lines limit) (call-most m channel lines limit))

  -- the number is at most 12
  pub number-most : (run_of m cp channel lines limit).number ≤ 12
  number-most = run_by (λ r. r.number ≤ 12) (λ n h. h) (λ h s m' p. steps-number limit s m' lines 0 p)

  -- no more steps are done than the limit
  pub steps-most : (run_of m cp channel lines limit).steps ≤ limit
  steps-most = run_by (λ r. r.steps ≤ limit) (λ n h. omega arith) (λ h s m' p. omega (arith, steps-done limit s m' lines 0))

  -- and fewer than 65,536
  pub steps-below : (run_of m cp channel lines limit).steps < 65536
  steps-below = run_by (λ r. r.steps < 65536) (λ n h. omega arith) (λ h s m' p. omega (arith, steps-done limit s m' lines 0))

  -- the answer is the number × 65,536 + the steps done (§8.4)
  pub answer-is : answer_of (run_of m cp channel lines limit) ≡ (run_of m cp channel lines limit).number * 65536 + (run_of m cp channel lines limit).steps
  unfolding answer_of
  answer-is =
      let small : (run_of m cp channel lines limit).number < 65536 = omega (arith, number-most) in
      rw (mod-eq_of_lt small, mod-eq_of_lt steps-below)

  -- the number is the answer's high half
  pub number-back : answer_of (run_of m cp channel lines limit) / 65536 ≡ (run_of m cp channel lines limit).number
  number-back = rw answer-is (omega (arith, steps-below))

  -- and the steps its low half
  pub steps_back : answer_of (run_of m cp channel lines limit) % 65536 ≡ (run_of m cp channel lines limit).steps
  steps_back = rw answer-is (omega (arith, steps-below))
