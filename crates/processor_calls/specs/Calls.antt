-- The calls on two processors for C, each state in bytes: the single call on bytes, lifted.
use Rattle.std.specs.Prelude.{List, ℕ}
use Rattle.ground_rules.specs.Buffers.{Buffers}
use Rattle.state_rules.specs.Calls.{MadeBytes, Service, reset_made, power_served, attention_served, step_served, sweep_served}
use Rattle.schedule_rules.specs.Reports.{no_report, put_over}
use Rattle.schedule_rules.specs.declared.ScheduleRow.{ScheduleRow}
use Rattle.schedule_calls.specs.Calls.{ScheduleService, schedule_served}
use Rattle.schedule_calls.specs.Turns.{standing}
use Rattle.processor_rules.specs.Lifting.{Called, called_with, Lifted, lifted}
use Rattle.processor_rules.specs.Processors.{Processors, Memories}

-- what a schedule answers: its number, and the words of its report
pub record Reported : Type 0 where
  pub number : ℕ
  pub words : List ℕ

abbrev pub reported : ℕ → List ℕ → Reported
reported number words = record { number = number; words = words }

-- the words of a report of zeros, as many as are lent
abbrev pub zeros_over : List ℕ → List ℕ
zeros_over words = put_over no_report words

-- ---- the single calls on bytes, as the lifting takes them

-- what a call leaves
abbrev pub served_as : Service → Called (List ℕ) ℕ
served_as o = called_with o.answer o.bytes o.memory

abbrev pub attention_on_bytes : ℕ → List ℕ → Buffers → Called (List ℕ) ℕ
attention_on_bytes channel b m = served_as (attention_served b m channel)

abbrev pub step_on_bytes : ℕ → List ℕ → Buffers → Called (List ℕ) ℕ
step_on_bytes lines b m = served_as (step_served b m lines)

abbrev pub power_up_on_bytes : List ℕ → Buffers → Called (List ℕ) ℕ
power_up_on_bytes b m = served_as (power_served b m)

abbrev pub sweep_on_bytes : ℕ → ℕ → List ℕ → Buffers → Called (List ℕ) ℕ
sweep_on_bytes channel lines b m = served_as (sweep_served b m channel lines)

-- a reset looks at no memory
abbrev pub made_as : MadeBytes → Buffers → Called (List ℕ) ℕ
made_as o m = called_with o.answer o.bytes m

abbrev pub reset_on_bytes : List ℕ → Buffers → Called (List ℕ) ℕ
reset_on_bytes b m = made_as (reset_made b) m

-- a schedule answers the words of its report too
abbrev pub scheduled_as : ScheduleService → Called (List ℕ) Reported
scheduled_as o = called_with (reported o.answer o.left.words) o.left.bytes o.left.memory

abbrev pub schedule_on_bytes : List ℕ → List ScheduleRow → List ℕ → Buffers → Called (List ℕ) Reported
schedule_on_bytes words rows b m = scheduled_as (schedule_served (standing b m words) rows)

-- ---- the six calls on two processors; a number that names none is answered by 12

-- an attention to a channel of a processor
unfoldable pub pair_attention : Processors (List ℕ) → Memories → ℕ → ℕ → Lifted (List ℕ) ℕ
pair_attention p m processor channel = lifted 12 (attention_on_bytes channel) p m processor

-- a step of a processor
unfoldable pub pair_step : Processors (List ℕ) → Memories → ℕ → ℕ → Lifted (List ℕ) ℕ
pair_step p m processor lines = lifted 12 (step_on_bytes lines) p m processor

-- a reset of a processor
unfoldable pub pair_reset : Processors (List ℕ) → Memories → ℕ → Lifted (List ℕ) ℕ
pair_reset p m processor = lifted 12 reset_on_bytes p m processor

-- a power-up of a processor
unfoldable pub pair_power_up : Processors (List ℕ) → Memories → ℕ → Lifted (List ℕ) ℕ
pair_power_up p m processor = lifted 12 power_up_on_bytes p m processor

-- a sweep of a channel of a processor
unfoldable pub pair_sweep : Processors (List ℕ) → Memories → ℕ → ℕ → ℕ → Lifted (List ℕ) ℕ
pair_sweep p m processor channel lines = lifted 12 (sweep_on_bytes channel lines) p m processor

-- a schedule of a processor over the words of its report, which 12 sets to zero as 16 and 17 do
unfoldable pub pair_schedule : Processors (List ℕ) → Memories → List ℕ → ℕ → List ScheduleRow → Lifted (List ℕ) Reported
pair_schedule p m words processor rows = lifted (reported 12 (zeros_over words)) (schedule_on_bytes words rows) p m processor
