-- What one processor sees of a call: of its own, what that call gives; of one to the other, its state and its I/O memory as they were.
-- Assumes nothing.
use mathlib.Core.Bool.{Bool, true, false, not}
use mathlib.Core.Path.{◌≡◌, refl, ap}
use Prim.Native.Nat.{ℕ}
use Rattle.ground_rules.specs.Buffers.{Buffers, space_of, lent_at, byte_at}
use Rattle.ground_rules.specs.declared.Pointer.{Pointer}
use Rattle.ground_rules.proofs.ChannelLaws.{named}
use Rattle.ground_rules.specs.declared.State.{State}
use Rattle.attention_rules.specs.Attention.{attention_of}
use Rattle.turn_rules.specs.Step.{step_of}
use Rattle.turn_rules.specs.declared.Kind.TheVariants.{Nothing}
use Rattle.block_rules.specs.Premises.{Lent}
use Rattle.block_rules.specs.Rows.{Left}
use Rattle.processor_rules.proofs.LiftLaws.{lifts}
use Rattle.processor_rules.specs.Calls.{call_answer, step_answer, attention_gives, step_gives, attention_on, step_on}
use Rattle.processor_rules.specs.Lifting.{Called}
use Rattle.processor_rules.specs.Processors.{Memories, processor_number, io_of, buffers_of}
use Rattle.promises_processors.specs.Rows.{PortsApart}
use Rattle.promises_processors.specs.Situations.{Situation, state_for, memory_for, after_step, after_attention, after_call}

twice : (b : Bool) → not (not b) ≡ b
twice true = refl
twice false = refl

module _ {A : Type 0} (twelve : A) (call : State → Buffers → Called State A) (b : Bool) (x : Situation) where
  -- its own call
  own-state : state_for b (after_call b twelve call x) ≡ (call (state_for b x) (memory_for b x)).state
  own-state = ap (λ (o : Called State A). o.state) ((lifts call twelve).own x.both x.memory b)

  own-memory : memory_for b (after_call b twelve call x) ≡ (call (state_for b x) (memory_for b x)).memory
  own-memory = ap (λ (o : Called State A). o.memory) ((lifts call twelve).own x.both x.memory b)

  -- one to the other
  pub other-state : state_for b (after_call (not b) twelve call x) ≡ state_for b x
  other-state = rw (named, twice) at ((lifts call twelve).kept x.both x.memory (processor_number (not b))).state

  pub other-io : io_of (after_call (not b) twelve call x).memory b ≡ io_of x.memory b
  other-io = rw (named, twice) at ((lifts call twelve).kept x.both x.memory (processor_number (not b))).io

-- a step and an attention of its own
module _ (b : Bool) (x : Situation) where
  pub step-state : (lines : ℕ) → state_for b (after_step b lines x) ≡ (step_of (state_for b x) (memory_for b x) lines).state
  unfolding step_on
  step-state lines = own-state (step_answer 12 0 0 Nothing) (step_gives lines) b x

  pub step-memory : (lines : ℕ) → memory_for b (after_step b lines x) ≡ (step_of (state_for b x) (memory_for b x) lines).memory
  unfolding step_on
  step-memory lines = own-memory (step_answer 12 0 0 Nothing) (step_gives lines) b x

  pub attention-state : (channel : ℕ) → state_for b (after_attention b channel x) ≡ (attention_of (state_for b x) (memory_for b x) channel).state
  unfolding attention_on
  attention-state channel = own-state (call_answer 12 0) (attention_gives channel) b x

  pub attention-memory : (channel : ℕ) → memory_for b (after_attention b channel x) ≡ (attention_of (state_for b x) (memory_for b x) channel).memory
  unfolding attention_on
  attention-memory channel = own-memory (call_answer 12 0) (attention_gives channel) b x

module _ (b : Bool) (m m' : Memories) (e : io_of m' b ≡ io_of m b) (n : ℕ) (q : Pointer) (l : Lent (buffers_of m b) q n) where
  -- a range of I/O space lies in its processor's own I/O memory
  io-left : q.tag ≡ true → Left q n (buffers_of m b) (buffers_of m' b)
  unfolding buffers_of byte_at lent_at space_of
  io-left t = rw (t, e) (record { bytes = λ i h. refl; lent = rw t at l })

  -- with system memory the same too, any range is left alone
  same_left : m'.sys ≡ m.sys → Left q n (buffers_of m b) (buffers_of m' b)
  unfolding buffers_of
  same_left f = rw (e, f) (record { bytes = λ i h. refl; lent = l })

pub ports-apart : (b second : Bool) (n : ℕ) (x₀ x : Situation) → PortsApart b second n x₀ x
ports-apart b second n x₀ x =
    record {
      io = λ twelve call q t l. io-left b x.memory _ (other-io twelve call b x) n q l t;
      ports = λ twelve call source destination e. record {
        from_left = same_left b x.memory _ (other-io twelve call b x) n _ source e;
        into_left = same_left b x.memory _ (other-io twelve call b x) n _ destination e;
      };
    }
