-- The calls of one processor as the lifting takes them, and the six calls on two (§16). No rule of the machine stands here.
use Rattle.std.specs.Prelude.{List, ℕ}
use Rattle.ground_rules.specs.Buffers.{Buffers}
use Rattle.ground_rules.specs.States.{reset_state}
use Rattle.ground_rules.specs.declared.State.{State}
use Rattle.attention_rules.specs.Attention.{attention_of, attention_count}
use Rattle.attention_rules.specs.Power.{power_up_of, power_count}
use Rattle.turn_rules.specs.Step.{step_of}
use Rattle.turn_rules.specs.Touched.{step_count}
use Rattle.turn_rules.specs.declared.Kind.{Kind}
use Rattle.turn_rules.specs.declared.Kind.TheVariants.{Nothing}
use Rattle.sweep_rules.specs.Sweep.{sweep_of}
use Rattle.schedule_rules.specs.Reports.{no_report, schedule_of}
use Rattle.schedule_rules.specs.Rows.{bench}
use Rattle.schedule_rules.specs.declared.ScheduleRow.{ScheduleRow}
use Rattle.processor_rules.specs.Lifting.{Called, called_with, Lifted, lifted}
use Rattle.processor_rules.specs.Processors.{Processors, Memories}

-- ---- what each call answers

-- an attention and a power-up: the number, and how many bytes were read and stored
pub record CallAnswer : Type 0 where
  pub number : ℕ
  pub count : ℕ

-- a step: besides these the channel that stepped and the kind of its step
pub record StepAnswer : Type 0 where
  pub number : ℕ
  pub count : ℕ
  pub channel : ℕ
  pub kind : Kind

-- a sweep: the number, the steps that it stands for, and how many bytes were read and stored
pub record SweepAnswer : Type 0 where
  pub number : ℕ
  pub steps : ℕ
  pub count : ℕ

-- a schedule: the number and the report
pub record ScheduleAnswer : Type 0 where
  pub number : ℕ
  pub report : List ℕ

abbrev pub call_answer : ℕ → ℕ → CallAnswer
call_answer number count = record { number = number; count = count }

abbrev pub step_answer : ℕ → ℕ → ℕ → Kind → StepAnswer
step_answer number count channel kind = record { number = number; count = count; channel = channel; kind = kind }

abbrev pub sweep_answer : ℕ → ℕ → ℕ → SweepAnswer
sweep_answer number steps count = record { number = number; steps = steps; count = count }

abbrev pub schedule_answer : ℕ → List ℕ → ScheduleAnswer
schedule_answer number report = record { number = number; report = report }

-- ---- the calls of one processor, each with all that it answers

abbrev pub attention_gives : ℕ → State → Buffers → Called State CallAnswer
attention_gives channel s m =
    let o = attention_of s m channel in
    called_with (call_answer o.number (attention_count s m channel)) o.state o.memory

abbrev pub step_gives : ℕ → State → Buffers → Called State StepAnswer
step_gives lines s m =
    let o = step_of s m lines in
    called_with (step_answer o.number (step_count s m lines) o.channel o.kind) o.state o.memory

-- a reset is refused by nothing, and looks at no memory
abbrev pub reset_gives : State → Buffers → Called State ℕ
reset_gives s m = called_with 0 reset_state m

abbrev pub power_up_gives : State → Buffers → Called State CallAnswer
power_up_gives s m =
    let o = power_up_of s m in
    called_with (call_answer o.number (power_count m)) o.state o.memory

abbrev pub sweep_gives : ℕ → ℕ → State → Buffers → Called State SweepAnswer
sweep_gives channel lines s m =
    let o = sweep_of s m channel lines in
    called_with (sweep_answer o.number o.steps o.count) o.state o.memory

abbrev pub schedule_gives : List ScheduleRow → State → Buffers → Called State ScheduleAnswer
schedule_gives rows s m =
    let o = schedule_of (bench s m) rows in
    called_with (schedule_answer o.number o.report) o.bench.state o.bench.memory

-- ---- the six calls on two processors

-- an attention to a channel of a processor (§4)
unfoldable pub attention_on : Processors State → Memories → ℕ → ℕ → Lifted State CallAnswer
attention_on p m processor channel = lifted (call_answer 12 0) (attention_gives channel) p m processor

-- a step of a processor (§5)
unfoldable pub step_on : Processors State → Memories → ℕ → ℕ → Lifted State StepAnswer
step_on p m processor lines = lifted (step_answer 12 0 0 Nothing) (step_gives lines) p m processor

-- a reset of a processor (§2.11)
unfoldable pub reset_on : Processors State → Memories → ℕ → Lifted State ℕ
reset_on p m processor = lifted 12 reset_gives p m processor

-- a power-up of a processor (§4.12)
unfoldable pub power_up_on : Processors State → Memories → ℕ → Lifted State CallAnswer
power_up_on p m processor = lifted (call_answer 12 0) power_up_gives p m processor

-- a sweep of a channel of a processor (§7.15)
unfoldable pub sweep_on : Processors State → Memories → ℕ → ℕ → ℕ → Lifted State SweepAnswer
sweep_on p m processor channel lines = lifted (sweep_answer 12 0 0) (sweep_gives channel lines) p m processor

-- a schedule of a processor (§15)
unfoldable pub schedule_on : Processors State → Memories → ℕ → List ScheduleRow → Lifted State ScheduleAnswer
schedule_on p m processor rows = lifted (schedule_answer 12 no_report) (schedule_gives rows) p m processor
