-- Demand 3 with pauses and two processors: while the channel is suspended the other processor spares PB's first four bytes too.
use Rattle.std.specs.Prelude.{Bool, true, false, not, ◌++◌, ◌≡◌, ℕ, suc, ◌<◌}
use Rattle.ground_rules.specs.Buffers.{Buffers}
use Rattle.ground_rules.specs.Psw.{transferring}
use Rattle.ground_rules.specs.States.{channel_number}
use Rattle.ground_rules.specs.declared.State.{State}
use Rattle.attention_rules.specs.declared.Command.TheVariants.{Suspend, Resume}
use Rattle.block_rules.specs.Premises.{from, into}
use Rattle.block_rules.specs.Stages.{midway, RangesHeld, Going, Ended}
use Rattle.block_rules.specs.Totals.{moved_after}
use Rattle.promises.specs.Calls.{HasTurn, Moves}
use Rattle.promises_pauses.specs.Pausing.{Quietly, Spared, PauseStores, block_bytes, busy_byte}
use Rattle.processor_rules.specs.Lifting.{Called}
use Rattle.promises_processors.specs.Situations.{Situation, state_for, channel_for, memory_for, after_step, after_attention, after_call}

-- what all but the channel's own steps and pauses leave alone, in what its processor sees
abbrev pub SparedOn : Bool → Bool → Bool → ℕ → Situation → Situation → Situation → Type 0
SparedOn which second paused n x₀ x x' = Spared second n (state_for which x₀) paused (memory_for which x) (memory_for which x')

-- what comes of two processors by calls in a row, as in `ProcessorCalls`, among which the channel may be suspended and resumed
pub data PausedProcessorCalls (which second : Bool) (n : ℕ) (x₀ : Situation) : ℕ → Bool → Situation → Type 1 where
  begin : PausedProcessorCalls which second n x₀ 0 false x₀
  transfer : {k : ℕ} {x : Situation} → PausedProcessorCalls which second n x₀ k false x → (lines : ℕ) → HasTurn second (state_for which x) (memory_for which x) lines
      → transferring (channel_for which second x).psw ≡ true → PausedProcessorCalls which second n x₀ (suc k) false (after_step which lines x)
  step : {k : ℕ} {paused : Bool} {x : Situation} → PausedProcessorCalls which second n x₀ k paused x → (lines : ℕ)
      → (HasTurn second (state_for which x) (memory_for which x) lines → ⊥) → SparedOn which second paused n x₀ x (after_step which lines x)
      → PausedProcessorCalls which second n x₀ k paused (after_step which lines x)
  attention : {k : ℕ} {paused : Bool} {x : Situation} → PausedProcessorCalls which second n x₀ k paused x → (channel : ℕ) → (channel ≡ channel_number second → ⊥)
      → SparedOn which second paused n x₀ x (after_attention which channel x) → PausedProcessorCalls which second n x₀ k paused (after_attention which channel x)
  other : {k : ℕ} {paused : Bool} {x : Situation} {A : Type 0} → PausedProcessorCalls which second n x₀ k paused x → (twelve : A)
      (call : State → Buffers → Called State A) → SparedOn which second paused n x₀ x (after_call (not which) twelve call x)
      → PausedProcessorCalls which second n x₀ k paused (after_call (not which) twelve call x)
  host : {k : ℕ} {paused : Bool} {x : Situation} → PausedProcessorCalls which second n x₀ k paused x → (x' : Situation) → state_for which x' ≡ state_for which x
      → SparedOn which second paused n x₀ x x' → PausedProcessorCalls which second n x₀ k paused x'
  suspend : {k : ℕ} {x : Situation} → PausedProcessorCalls which second n x₀ k false x → transferring (channel_for which second x).psw ≡ true
      → Quietly second Suspend (state_for which x) (memory_for which x)
      → PausedProcessorCalls which second n x₀ k true (after_attention which (channel_number second) x)
  resume : {k : ℕ} {x : Situation} → PausedProcessorCalls which second n x₀ k true x → Quietly second Resume (state_for which x) (memory_for which x)
      → PausedProcessorCalls which second n x₀ k false (after_attention which (channel_number second) x)

-- demand 3 with pauses, in what the processor named sees
pub record EndsPausedOnTwo (which second : Bool) (n : ℕ) (x₀ : Situation) (k : ℕ) : Type 1 where
  -- not suspended: all is as in the undisturbed run, each step call that is the channel's turn is its transfer step, and at the k-th it has ended
  pub before : {j : ℕ} {x : Situation} → PausedProcessorCalls which second n x₀ j false x → j < k
      → Going n (channel_for which second x₀) (memory_for which x₀) j (channel_for which second x) (memory_for which x)
  pub turns : {j : ℕ} {x : Situation} → PausedProcessorCalls which second n x₀ j false x → j < k → (lines : ℕ)
      → HasTurn second (state_for which x) (memory_for which x) lines → Moves second n (state_for which x₀) (state_for which x) (memory_for which x) lines
  pub then : {x : Situation} → PausedProcessorCalls which second n x₀ k false x
      → Ended n (channel_for which second x₀) (memory_for which x₀) (channel_for which second x) (memory_for which x)
  -- suspended: the transfer is short of its end, no step call is the channel's, and the bytes that have moved have, and no others; resumed, the channel is
  -- the one of the undisturbed run
  pub short : {j : ℕ} {x : Situation} → PausedProcessorCalls which second n x₀ j true x → j < k
  pub waits : {j : ℕ} {x : Situation} → PausedProcessorCalls which second n x₀ j true x → (lines : ℕ)
      → HasTurn second (state_for which x) (memory_for which x) lines → ⊥
  pub back : {j : ℕ} {x : Situation} → PausedProcessorCalls which second n x₀ j true x → Quietly second Resume (state_for which x) (memory_for which x)
      → channel_for which second (after_attention which (channel_number second) x)
      ≡ midway (channel_for which second x₀) n (moved_after (channel_for which second x₀) n j)
  pub bytes : {j : ℕ} {x : Situation} → PausedProcessorCalls which second n x₀ j true x → RangesHeld (from (channel_for which second x₀)) (into (channel_for which second x₀)) n
      (memory_for which x₀) (moved_after (channel_for which second x₀) n j) (memory_for which x)
  -- suspend changes no byte but PB's first four and BUSY, resume none but BUSY
  pub suspends : {j : ℕ} {x : Situation} → PausedProcessorCalls which second n x₀ j false x → Quietly second Suspend (state_for which x) (memory_for which x)
      → PauseStores (block_bytes second (state_for which x₀) ++ busy_byte second (state_for which x₀)) (memory_for which x)
      (memory_for which (after_attention which (channel_number second) x))
  pub resumes : {j : ℕ} {x : Situation} → PausedProcessorCalls which second n x₀ j true x → Quietly second Resume (state_for which x) (memory_for which x)
      → PauseStores (busy_byte second (state_for which x₀)) (memory_for which x) (memory_for which (after_attention which (channel_number second) x))
