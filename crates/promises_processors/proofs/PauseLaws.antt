-- Demand 3 with pauses and two processors: for the one named such a row is a row of its own with pauses.
-- Assumes nothing.
use Prim.Native.Nat.{ℕ}
use mathlib.Core.Bool.{Bool, true}
use mathlib.Core.Path.{◌≡◌, ap, ◌∙◌}
use Rattle.ground_rules.specs.Psw.{program_running}
use Rattle.ground_rules.specs.States.{channel_of, channel_number}
use Rattle.ground_rules.specs.declared.State.{State}
use Rattle.block_rules.specs.Premises.{Copy}
use Rattle.block_rules.specs.Totals.{total}
use Rattle.promises_pauses.proofs.PausedRows.{demand13}
use Rattle.promises_pauses.specs.Pausing.{PauseApart, PausedCalls}
use Rattle.promises_pauses.specs.Pausing as Single
use Rattle.promises_processors.specs.Pausing.{PausedProcessorCalls, EndsPausedOnTwo, begin, transfer, step, attention, other, host, suspend, resume}
use Rattle.promises_processors.specs.Situations.{Situation, state_for, channel_for, memory_for}
use Rattle.promises_processors.proofs.SeenLaws.{step-state, step-memory, attention-state, attention-memory, other-state}

module _ {b second : Bool} {n : ℕ} {x₀ : Situation} where
  -- the row, as the one named sees it
  pub paused-row-seen : {k : ℕ} {paused : Bool} {x : Situation} → PausedProcessorCalls b second n x₀ k paused x
      → PausedCalls second n (state_for b x₀) (memory_for b x₀) k paused (state_for b x) (memory_for b x)
  paused-row-seen begin = Single.begin
  paused-row-seen (transfer {x = x} r lines t z) = rw (step-state b x lines, step-memory b x lines) (Single.transfer (paused-row-seen r) lines t z)
  paused-row-seen (step {x = x} r lines ne u) =
      rw (step-state b x lines, step-memory b x lines) (Single.step (paused-row-seen r) lines ne (rw (step-memory b x lines) at u))
  paused-row-seen (attention {x = x} r channel ne u) =
      rw (attention-state b x channel, attention-memory b x channel)
      (Single.attention (paused-row-seen r) channel ne (rw (attention-memory b x channel) at u))
  paused-row-seen (other {x = x} r twelve call u) = rw (other-state twelve call b x) (Single.host (paused-row-seen r) u)
  paused-row-seen (host r x' e u) = rw e (Single.host (paused-row-seen r) u)
  paused-row-seen (suspend {x = x} r z q) =
      rw (attention-state b x (channel_number second), attention-memory b x (channel_number second)) (Single.suspend (paused-row-seen r) z q)
  paused-row-seen (resume {x = x} r q) =
      rw (attention-state b x (channel_number second), attention-memory b x (channel_number second)) (Single.resume (paused-row-seen r) q)

  -- so demand 3 with pauses holds of it
  pub demand13-on-two : Copy n (channel_for b second x₀) (memory_for b x₀) → program_running (channel_for b second x₀).psw ≡ true
      → PauseApart second n (state_for b x₀) → EndsPausedOnTwo b second n x₀ (total (channel_for b second x₀) n)
  demand13-on-two h tb far =
      let d = demand13 h tb far in
      record {
        before = λ r l. d.before (paused-row-seen r) l;
        turns = λ r l lines t. d.turns (paused-row-seen r) l lines t;
        then = λ r. d.then (paused-row-seen r);
        short = λ r. d.short (paused-row-seen r);
        waits = λ r. (d.waits (paused-row-seen r)).1;
        back = λ {j} {x} r q. ap (λ (s : State). channel_of s second) (attention-state b x (channel_number second)) ∙ d.back (paused-row-seen r) q;
        bytes = λ r. d.bytes (paused-row-seen r);
        suspends = λ {j} {x} r q. rw (attention-memory b x (channel_number second)) (d.suspends (paused-row-seen r) q);
        resumes = λ {j} {x} r q. rw (attention-memory b x (channel_number second)) (d.resumes (paused-row-seen r) q);
      }
