-- What is promised of a call on two processors, whichever it is: what it leaves alone, what it looks at, what the one named gets, and its
-- numbers (§16).
use Rattle.std.specs.Prelude.{Bool, true, false, not, List, [], ◌∷◌, ◌↔◌, ◌≡◌, ℕ}
use Rattle.ground_rules.specs.Buffers.{Buffers, buffers}
use Rattle.ground_rules.specs.Conditions.{Check, check, Given}
use Rattle.attention_rules.specs.Conditions.{attention_checks}
use Rattle.attention_rules.specs.PowerConditions.{power_checks}
use Rattle.turn_rules.specs.Conditions.{step_checks}
use Rattle.turn_rules.specs.declared.Kind.TheVariants.{Nothing}
use Rattle.sweep_rules.specs.Conditions.{sweep_checks}
use Rattle.schedule_rules.specs.Conditions.{schedule_checks}
use Rattle.schedule_rules.specs.Reports.{no_report}
use Rattle.schedule_rules.specs.declared.ScheduleRow.{ScheduleRow}
use Rattle.processor_rules.specs.Calls.{CallAnswer, StepAnswer, SweepAnswer, ScheduleAnswer, call_answer, step_answer, sweep_answer, schedule_answer, attention_gives, step_gives, reset_gives, power_up_gives, sweep_gives, schedule_gives, attention_on, step_on, reset_on, power_up_on, sweep_on, schedule_on}
use Rattle.processor_rules.specs.Lifting.{Called, called_with, Lifted, lifted_to}
use Rattle.processor_rules.specs.Processors.{Processors, processors, Memories, memories, processor_named, processor_number, processor_of, io_of, buffers_of}

-- what a processor gets of a call on two: the answer, its own state, system memory and its own I/O memory
abbrev pub seen_by : {S A : Type 0} → Bool → Lifted S A → Called S A
seen_by which o = called_with o.answer (processor_of o.both which) (buffers_of o.memory which)

-- two boards are the same for a processor: its state, system memory and its own I/O memory are (§16.1)
pub record SameFor {S : Type 0} (which : Bool) (p : Processors S) (m : Memories) (p' : Processors S) (m' : Memories) : Type 0 where
  pub state : processor_of p' which ≡ processor_of p which
  pub memory : buffers_of m' which ≡ buffers_of m which

-- the state and the I/O memory of a processor are left alone (§16.1)
pub record LeftAlone {S A : Type 0} (which : Bool) (p : Processors S) (m : Memories) (o : Lifted S A) : Type 0 where
  pub state : processor_of o.both which ≡ processor_of p which
  pub io : io_of o.memory which ≡ io_of m which

-- 12: the processor is neither 1 nor 2 (§16.2)
abbrev pub NoProcessor : ℕ → Type 0
NoProcessor processor = ¬ (processor ≡ 1) × ¬ (processor ≡ 2)

-- a call on two processors is that call of the one named
pub record Lifts {S A : Type 0} (twelve : A) (call : S → Buffers → Called S A) (on : Processors S → Memories → ℕ → Lifted S A) : Type 0 where
  -- no register of the other changes and no byte of its I/O memory, nor its length
  pub kept : (p : Processors S) (m : Memories) (processor : ℕ) → LeftAlone (not (processor_named processor)) p m (on p m processor)
  -- two boards that are the same for the one named give it the same: the answer, its state, system memory and its I/O memory
  pub same : (p : Processors S) (m : Memories) (p' : Processors S) (m' : Memories) (processor : ℕ) → SameFor (processor_named processor) p m p' m'
      → seen_by (processor_named processor) (on p' m' processor) ≡ seen_by (processor_named processor) (on p m processor)
  -- which is what its own call gives
  pub own : (p : Processors S) (m : Memories) (which : Bool) → seen_by which (on p m (processor_number which)) ≡ call (processor_of p which) (buffers_of m which)
  -- processor 1 has the first state and the first I/O memory, processor 2 the second ones
  pub one : (s t : S) (sys io ports : List ℕ) → seen_by false (on (processors s t) (memories sys io ports) 1) ≡ call s (buffers sys io)
  pub two : (s t : S) (sys io ports : List ℕ) → seen_by true (on (processors s t) (memories sys io ports) 2) ≡ call t (buffers sys ports)
  -- a number that names none is answered by what stands for 12, and nothing changes
  pub none : (p : Processors S) (m : Memories) (processor : ℕ) → NoProcessor processor → on p m processor ≡ lifted_to twelve p m

-- the checks of a call on two processors: 12 for the processor, then the call's own, on the state and the buffers of the one named (§16.2)
abbrev pub checks_on : {S : Type 0} → (S → Buffers → List Check) → Processors S → Memories → ℕ → List Check
checks_on checks p m processor = check 12 (NoProcessor processor) ∷ checks (processor_of p (processor_named processor)) (buffers_of m (processor_named processor))

-- the numbers of a call on two processors
pub record Numbers {S A : Type 0} (number : A → ℕ) (checks : S → Buffers → List Check) (on : Processors S → Memories → ℕ → Lifted S A) : Type 0 where
  -- each under its own condition
  pub exactly : (p : Processors S) (m : Memories) (processor n : ℕ) → (number (on p m processor).answer ≡ n) ↔ Given (checks_on checks p m processor) n
  -- a refused call changes nothing of either processor
  pub refused : (p : Processors S) (m : Memories) (processor : ℕ) → ¬ (number (on p m processor).answer ≡ 0)
      → on p m processor ≡ lifted_to (on p m processor).answer p m

-- both, of each of the six
pub record SixCalls : Type 0 where
  pub attention : (channel : ℕ) → Lifts (call_answer 12 0) (attention_gives channel) (λ p m processor. attention_on p m processor channel)
  pub attention_numbers : (channel : ℕ)
      → Numbers (λ (a : CallAnswer). a.number) (λ s m. attention_checks s m channel) (λ p m processor. attention_on p m processor channel)
  pub step : (lines : ℕ) → Lifts (step_answer 12 0 0 Nothing) (step_gives lines) (λ p m processor. step_on p m processor lines)
  pub step_numbers : (lines : ℕ) → Numbers (λ (a : StepAnswer). a.number) (λ s m. step_checks s m lines) (λ p m processor. step_on p m processor lines)
  pub reset : Lifts 12 reset_gives reset_on
  pub reset_numbers : Numbers (λ (a : ℕ). a) (λ s m. []) reset_on
  pub power_up : Lifts (call_answer 12 0) power_up_gives power_up_on
  pub power_up_numbers : Numbers (λ (a : CallAnswer). a.number) (λ s m. power_checks m) power_up_on
  pub sweep : (channel lines : ℕ) → Lifts (sweep_answer 12 0 0) (sweep_gives channel lines) (λ p m processor. sweep_on p m processor channel lines)
  pub sweep_numbers : (channel lines : ℕ)
      → Numbers (λ (a : SweepAnswer). a.number) (λ s m. sweep_checks s m channel lines) (λ p m processor. sweep_on p m processor channel lines)
  pub schedule : (rows : List ScheduleRow) → Lifts (schedule_answer 12 no_report) (schedule_gives rows) (λ p m processor. schedule_on p m processor rows)
  pub schedule_numbers : (rows : List ScheduleRow)
      → Numbers (λ (a : ScheduleAnswer). a.number) (λ s m. schedule_checks rows) (λ p m processor. schedule_on p m processor rows)
