-- Demand 3 with two processors: calls in a row on either of them, for a channel of the one named.
use Rattle.std.specs.Prelude.{Bool, true, not, List, ◌≡◌, ℕ, suc, ◌<◌}
use Rattle.ground_rules.specs.Buffers.{Buffers}
use Rattle.ground_rules.specs.declared.Pointer.{Pointer}
use Rattle.ground_rules.specs.Psw.{transferring}
use Rattle.ground_rules.specs.States.{channel_number}
use Rattle.ground_rules.specs.declared.State.{State}
use Rattle.block_rules.specs.Premises.{from, into, Lent}
use Rattle.block_rules.specs.Rows.{Left, Untouched}
use Rattle.block_rules.specs.Stages.{Going, Ended}
use Rattle.schedule_rules.specs.declared.ScheduleRow.{ScheduleRow}
use Rattle.promises.specs.Calls.{HasTurn, Moves}
use Rattle.processor_rules.specs.Calls.{attention_on, step_on, reset_on, power_up_on, sweep_on, schedule_on}
use Rattle.processor_rules.specs.Lifting.{Called}
use Rattle.processor_rules.specs.Processors.{processor_number}
use Rattle.promises_processors.specs.Situations.{Situation, left_in, state_for, channel_for, memory_for, after_step, after_attention, after_call}

-- the ranges of a processor's channel are left alone in what that processor sees
abbrev pub Unharmed : Bool → Bool → ℕ → Situation → Situation → Situation → Type 0
Unharmed which second n x₀ x x' = Untouched (channel_for which second x₀) n (memory_for which x) (memory_for which x')

-- what comes of two processors by calls in a row, k of which are transfer steps of a channel of the one named: its own calls as in demand 3; whatever call
-- the other gets, a reset, a power-up, a sweep or a schedule too; the host, who may write, lend other buffers and give the other another state. All but the
-- first two leave both ranges alone
pub data ProcessorCalls (which second : Bool) (n : ℕ) (x₀ : Situation) : ℕ → Situation → Type 1 where
  begin : ProcessorCalls which second n x₀ 0 x₀
  transfer : {k : ℕ} {x : Situation} → ProcessorCalls which second n x₀ k x → (lines : ℕ) → HasTurn second (state_for which x) (memory_for which x) lines
      → transferring (channel_for which second x).psw ≡ true → ProcessorCalls which second n x₀ (suc k) (after_step which lines x)
  step : {k : ℕ} {x : Situation} → ProcessorCalls which second n x₀ k x → (lines : ℕ) → (HasTurn second (state_for which x) (memory_for which x) lines → ⊥)
      → Unharmed which second n x₀ x (after_step which lines x) → ProcessorCalls which second n x₀ k (after_step which lines x)
  attention : {k : ℕ} {x : Situation} → ProcessorCalls which second n x₀ k x → (channel : ℕ) → (channel ≡ channel_number second → ⊥)
      → Unharmed which second n x₀ x (after_attention which channel x) → ProcessorCalls which second n x₀ k (after_attention which channel x)
  other : {k : ℕ} {x : Situation} {A : Type 0} → ProcessorCalls which second n x₀ k x → (twelve : A) (call : State → Buffers → Called State A)
      → Unharmed which second n x₀ x (after_call (not which) twelve call x) → ProcessorCalls which second n x₀ k (after_call (not which) twelve call x)
  host : {k : ℕ} {x : Situation} → ProcessorCalls which second n x₀ k x → (x' : Situation) → state_for which x' ≡ state_for which x
      → Unharmed which second n x₀ x x' → ProcessorCalls which second n x₀ k x'

-- a call of the other that leaves both ranges alone is one call more of the row
abbrev pub MayFollow : Bool → Bool → ℕ → Situation → ℕ → Situation → Situation → Type 1
MayFollow which second n x₀ k x x' = Unharmed which second n x₀ x x' → ProcessorCalls which second n x₀ k x'

-- each of the six is
pub record AnyOfSix (which second : Bool) (n : ℕ) (x₀ : Situation) (k : ℕ) (x : Situation) : Type 1 where
  pub attention : (channel : ℕ) → MayFollow which second n x₀ k x (left_in (attention_on x.both x.memory (processor_number (not which)) channel))
  pub step : (lines : ℕ) → MayFollow which second n x₀ k x (left_in (step_on x.both x.memory (processor_number (not which)) lines))
  pub reset : MayFollow which second n x₀ k x (left_in (reset_on x.both x.memory (processor_number (not which))))
  pub power_up : MayFollow which second n x₀ k x (left_in (power_up_on x.both x.memory (processor_number (not which))))
  pub sweep : (channel lines : ℕ) → MayFollow which second n x₀ k x (left_in (sweep_on x.both x.memory (processor_number (not which)) channel lines))
  pub schedule : (rows : List ScheduleRow) → MayFollow which second n x₀ k x (left_in (schedule_on x.both x.memory (processor_number (not which)) rows))

-- demand 3, in what the processor named sees: its channel's transfer ends at the k-th of that channel's transfer steps, and not before
pub record EndsOnTwo (which second : Bool) (n : ℕ) (x₀ : Situation) (k : ℕ) : Type 1 where
  pub before : {j : ℕ} {x : Situation} → ProcessorCalls which second n x₀ j x → j < k
      → Going n (channel_for which second x₀) (memory_for which x₀) j (channel_for which second x) (memory_for which x)
  pub turns : {j : ℕ} {x : Situation} → ProcessorCalls which second n x₀ j x → j < k → (lines : ℕ) → HasTurn second (state_for which x) (memory_for which x) lines
      → Moves second n (state_for which x₀) (state_for which x) (memory_for which x) lines
  pub then : {x : Situation} → ProcessorCalls which second n x₀ k x
      → Ended n (channel_for which second x₀) (memory_for which x₀) (channel_for which second x) (memory_for which x)

-- the other's I/O memory is no concern of the one named, whatever the addresses
pub record PortsApart (which second : Bool) (n : ℕ) (x₀ x : Situation) : Type 1 where
  -- no call of the other writes into a range of the I/O space of the one named
  pub io : {A : Type 0} (twelve : A) (call : State → Buffers → Called State A) (q : Pointer) → q.tag ≡ true → Lent (memory_for which x) q n
      → Left q n (memory_for which x) (memory_for which (after_call (not which) twelve call x))
  -- and one that leaves system memory as it is harms neither range, wherever in its own I/O memory it writes
  pub ports : {A : Type 0} (twelve : A) (call : State → Buffers → Called State A) → Lent (memory_for which x) (from (channel_for which second x₀)) n
      → Lent (memory_for which x) (into (channel_for which second x₀)) n → (after_call (not which) twelve call x).memory.sys ≡ x.memory.sys
      → Unharmed which second n x₀ x (after_call (not which) twelve call x)
