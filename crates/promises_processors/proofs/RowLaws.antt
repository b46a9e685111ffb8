-- Demand 3 with two processors: for the one named a row of calls on both is a row of its own, the other's calls being the host's doing.
-- Assumes nothing.
use Prim.Native.Nat.{ℕ}
use mathlib.Core.Bool.{Bool}
use Rattle.turn_rules.specs.declared.Kind.TheVariants.{Nothing}
use Rattle.schedule_rules.specs.Reports.{no_report}
use Rattle.block_rules.specs.Premises.{Copy}
use Rattle.block_rules.specs.Totals.{total}
use Rattle.promises.proofs.MachineLaws.{demand3-calls}
use Rattle.promises.specs.Calls.{Calls}
use Rattle.promises.specs.Calls as Single
use Rattle.processor_rules.specs.Calls.{call_answer, step_answer, sweep_answer, schedule_answer, attention_gives, step_gives, reset_gives, power_up_gives, sweep_gives, schedule_gives, attention_on, step_on, reset_on, power_up_on, sweep_on, schedule_on}
use Rattle.promises_processors.specs.Rows.{ProcessorCalls, AnyOfSix, EndsOnTwo, begin, transfer, step, attention, other, host}
use Rattle.promises_processors.specs.Situations.{Situation, state_for, channel_for, memory_for}
use Rattle.promises_processors.proofs.SeenLaws.{step-state, step-memory, attention-state, attention-memory, other-state}

module _ {b second : Bool} {n : ℕ} {x₀ : Situation} where
  -- the row, as the one named sees it
  pub row_seen : {k : ℕ} {x : Situation} → ProcessorCalls b second n x₀ k x → Calls second n (state_for b x₀) (memory_for b x₀) k (state_for b x) (memory_for b x)
  row_seen begin = Single.begin
  row_seen (transfer {x = x} r lines t z) = rw (step-state b x lines, step-memory b x lines) (Single.transfer (row_seen r) lines t z)
  row_seen (step {x = x} r lines ne u) =
      rw (step-state b x lines, step-memory b x lines) (Single.step (row_seen r) lines ne (rw (step-memory b x lines) at u))
  row_seen (attention {x = x} r channel ne u) =
      rw (attention-state b x channel, attention-memory b x channel) (Single.attention (row_seen r) channel ne (rw (attention-memory b x channel) at u))
  row_seen (other {x = x} r twelve call u) = rw (other-state twelve call b x) (Single.host (row_seen r) u)
  row_seen (host r x' e u) = rw e (Single.host (row_seen r) u)

  -- so demand 3 holds of it, word for word
  pub demand3-on-two : Copy n (channel_for b second x₀) (memory_for b x₀) → EndsOnTwo b second n x₀ (total (channel_for b second x₀) n)
  demand3-on-two h =
      let d = demand3-calls h in
      record { before = λ r l. d.before (row_seen r) l; turns = λ r l lines t. d.turns (row_seen r) l lines t; then = λ r. d.then (row_seen r) }

  -- each of the six calls of the other may stand in it
  pub any-of-six : {k : ℕ} {x : Situation} → ProcessorCalls b second n x₀ k x → AnyOfSix b second n x₀ k x
  unfolding attention_on step_on reset_on power_up_on sweep_on schedule_on
  any-of-six r =
      record {
        attention = λ channel. other r (call_answer 12 0) (attention_gives channel);
        step = λ lines. other r (step_answer 12 0 0 Nothing) (step_gives lines);
        reset = other {A = ℕ} r 12 reset_gives;
        power_up = other r (call_answer 12 0) power_up_gives;
        sweep = λ channel lines. other r (sweep_answer 12 0 0) (sweep_gives channel lines);
        schedule = λ rows. other r (schedule_answer 12 no_report) (schedule_gives rows);
      }
