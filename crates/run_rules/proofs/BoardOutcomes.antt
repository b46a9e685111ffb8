-- The outcome of a board's run by cases: 12, 11 and power-up's 2 stop it with no step and no byte changed; otherwise it is the attention to the state found, and steps. Its number is at most 12.
-- Assumes nothing.
use Prim.Native.Nat.{ℕ, ◌*◌, ◌/◌, ◌%◌, ◌+◌, ◌<◌, ◌≤◌}
use borrow.Author.Tests.{eq-eqb, ne_eqb}
use mathlib.Core.Path.{◌≡◌, refl, sym, ap, subst, ◌∙◌}
use native.Mathlib.Decide.{ℕ_discrete}
use native.Mathlib.Nat.{mod-eq_of_lt}
use native.Mathlib.Omega.{arith}
use Rattle.attention_rules.specs.Attention.{attention_of}
use Rattle.ground_rules.specs.Outcomes.{Outcome, outcome}
use Rattle.ground_rules.specs.States.{reset_state}
use Rattle.ground_rules.specs.Buffers.{Buffers}
use Rattle.run_rules.proofs.Bounds.{call-most, attended-most, attended-steps}
use Rattle.run_rules.proofs.RunLaws.{call-limit}
use Rattle.run_rules.specs.Run.{Run, ran, attended_run, started_run, call_number, answer_of}
use Rattle.attention_rules.proofs.PowerNumbers.{power-most}
use Rattle.attention_rules.proofs.PowerOutcomes.{power-refused, power-accepted, found-powered, found-agree}
use Rattle.attention_rules.specs.Power.{found_state, found_memory, power_up_of}
use Rattle.run_rules.specs.Board.{powered_run, board_run_of}

module _ (m : Buffers) (channel lines limit : ℕ) where
  -- 12 and 11
  pub refused-call : ¬ (call_number m channel lines limit ≡ 0) → board_run_of m channel lines limit ≡ ran (call_number m channel lines limit) 0 m
  unfolding board_run_of
  refused-call ne = rw (ne_eqb (call_number m channel lines limit) 0 ne)

  powers : call_number m channel lines limit ≡ 0 → board_run_of m channel lines limit ≡ powered_run (power_up_of reset_state m) channel lines limit
  unfolding board_run_of
  powers e = rw (eq-eqb (call_number m channel lines limit) 0 e)

  -- power-up's number
  pub refused-power : call_number m channel lines limit ≡ 0 → ¬ ((power_up_of reset_state m).number ≡ 0) → board_run_of m channel lines limit ≡ ran (power_up_of reset_state m).number 0 m
  unfolding powered_run started_run
  refused-power e ne =
      powers e
      ∙ ap (λ (o : Outcome). powered_run o channel lines limit) (power-refused reset_state m ne)
      ∙ rw (ne_eqb (power_up_of reset_state m).number 0 ne)

  -- where it is accepted, the attention and steps, from what it left
  pub accepted-power : call_number m channel lines limit ≡ 0 → (power_up_of reset_state m).number ≡ 0
      → board_run_of m channel lines limit ≡ attended_run (attention_of (found_state m) (found_memory m) channel) lines limit
  unfolding powered_run started_run
  accepted-power e z = powers e ∙ ap (λ (o : Outcome). powered_run o channel lines limit) (power-accepted reset_state m z)

  -- what holds of a run that is refused at its start, and of the attention and steps under a limit of sixteen bits, holds of the run
  run_by : (P : Run → Type 0) → ((n : ℕ) → n ≤ 12 → P (ran n 0 m)) → (limit < 65536 → P (attended_run (attention_of (found_state m) (found_memory m) channel) lines limit))
      → P (board_run_of m channel lines limit)
  run_by P refused attended = called (ℕ_discrete (call_number m channel lines limit) 0)
    where
      powered : call_number m channel lines limit ≡ 0 → Dec ((power_up_of reset_state m).number ≡ 0) → P (board_run_of m channel lines limit)
      powered e (yes z) = subst P (sym (accepted-power e z)) (attended (call-limit m channel lines limit e))
      powered e (no ne) = subst P (sym (refused-power e ne)) (refused (power_up_of reset_state m).number (omega (arith, power-most reset_state m)))

      called : Dec (call_number m channel lines limit ≡ 0) → P (board_run_of m channel lines limit)
      called (yes e) = powered e (ℕ_discrete (power_up_of reset_state m).number 0)
      called (no ne) = subst P (sym (refused-call ne)) (refused (call_number m channel lines limit) (call-most m channel lines limit))

  -- the number is at most 12, so never 13
  pub number-most : (board_run_of m channel lines limit).number ≤ 12
  number-most = run_by (λ r. r.number ≤ 12) (λ n h. h) (λ h. attended-most (found_state m) (found_memory m) channel lines limit (found-powered m, found-agree m))

  -- no more steps are done than the limit, and fewer than 65,536
  pub steps-most : (board_run_of m channel lines limit).steps ≤ limit
  steps-most = run_by (λ r. r.steps ≤ limit) (λ n h. omega arith) (λ h. attended-steps (found_state m) (found_memory m) channel lines limit)

  pub steps-below : (board_run_of m channel lines limit).steps < 65536
  steps-below = run_by (λ r. r.steps < 65536) (λ n h. omega arith) (λ h. omega (arith, attended-steps (found_state m) (found_memory m) channel lines limit))

  -- number and steps can be taken out of the answer again
  pub answer-is : answer_of (board_run_of m channel lines limit) ≡ (board_run_of m channel lines limit).number * 65536 + (board_run_of m channel lines limit).steps
  unfolding answer_of
  answer-is =
      let small : (board_run_of m channel lines limit).number < 65536 = omega (arith, number-most) in
      rw (mod-eq_of_lt small, mod-eq_of_lt steps-below)
