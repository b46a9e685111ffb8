-- The run as a whole: no two outcomes meet its contract, and a start that is refused changes no byte.
-- Assumes nothing.
use mathlib.Core.Path.{◌≡◌, sym, ap, ◌∙◌}
use Prim.Native.Nat.{ℕ, ◌<◌, ◌≤◌}
use borrow.Author.Tests.{eq-eqb, ne_eqb, le-ltb, lt-ltb}
use Rattle.ground_rules.specs.Buffers.{Buffers}
use Rattle.ground_rules.specs.Outcomes.{Outcome, outcome}
use Rattle.ground_rules.specs.States.{fresh_state, fresh_of}
use Rattle.attention_rules.specs.Attention.{attention_of}
use Rattle.attention_rules.proofs.Outcomes.{refused-nothing}
use Rattle.run_rules.specs.Run.{Run, ran, steps_from, attended_run, started_run, call_number, run_of, answer_of, Call, called}

module _ (m : Buffers) (cp channel lines limit : ℕ) where
  -- the answer and both memories are determined: two outcomes that meet the contract are equal
  pub unique : (one two : Call) → one ≡ called (answer_of (run_of m cp channel lines limit)) (run_of m cp channel lines limit).memory
      → two ≡ called (answer_of (run_of m cp channel lines limit)) (run_of m cp channel lines limit).memory → one ≡ two
  unique one two p q = p ∙ sym q

  -- a call that 12 or 11 refuses does no step and changes no byte
  pub refused-call : (call_number m channel lines limit ≡ 0 → ⊥) → run_of m cp channel lines limit ≡ ran (call_number m channel lines limit) 0 m
  unfolding run_of
  refused-call ne = rw (ne_eqb (call_number m channel lines limit) 0 ne)

  module _ (given : call_number m channel lines limit ≡ 0) where
    -- a CP past 20 bits is refused by 10, with no step and no byte changed
    pub refused-cp : 1048576 ≤ cp → run_of m cp channel lines limit ≡ ran 10 0 m
    unfolding run_of started_run fresh_of
    refused-cp h = rw (eq-eqb (call_number m channel lines limit) 0 given, le-ltb cp 1048576 h)

    module _ (bound : cp < 1048576) where
      -- past those, a run is one attention to a fresh state, and the steps after it where it is accepted
      pub attends : run_of m cp channel lines limit ≡ attended_run (attention_of (fresh_state cp) m channel) lines limit
      unfolding run_of started_run fresh_of
      attends = rw (eq-eqb (call_number m channel lines limit) 0 given, lt-ltb cp 1048576 bound)

      -- an attention that is refused leaves every byte, and no step is done
      pub refused-attention : ((attention_of (fresh_state cp) m channel).number ≡ 0 → ⊥)
          → run_of m cp channel lines limit ≡ ran (attention_of (fresh_state cp) m channel).number 0 m
      unfolding attended_run
      refused-attention ne =
          attends
          ∙ rw (ne_eqb (attention_of (fresh_state cp) m channel).number 0 ne)
          (ap (λ (o : Outcome). ran (attention_of (fresh_state cp) m channel).number 0 o.memory) (refused-nothing (fresh_state cp) m channel ne))

      -- an attention that is accepted is followed by steps up to the limit; what each leaves is where the next begins
      pub accepted-attention : (attention_of (fresh_state cp) m channel).number ≡ 0
          → run_of m cp channel lines limit
          ≡ steps_from limit (attention_of (fresh_state cp) m channel).state (attention_of (fresh_state cp) m channel).memory lines 0
      unfolding attended_run
      accepted-attention e = attends ∙ rw (eq-eqb (attention_of (fresh_state cp) m channel).number 0 e)
