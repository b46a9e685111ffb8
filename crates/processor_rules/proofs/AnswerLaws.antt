-- What the calls on two processors answer beside their number, field by field: the count of the places that the single call touches, who stepped, and how.
-- Assumes nothing.
use Prim.Native.Nat.{ℕ}
use mathlib.Core.List.{List}
use mathlib.Core.Path.{◌≡◌, refl}
use Rattle.ground_rules.specs.Buffers.{Buffers}
use Rattle.ground_rules.specs.Outcomes.{counted}
use Rattle.ground_rules.specs.declared.State.{State}
use Rattle.attention_rules.specs.Attention.{attention_number, attention_count, touched_by_attention}
use Rattle.attention_rules.specs.Power.{power_number, power_count, touched_by_power}
use Rattle.turn_rules.specs.Step.{step_of}
use Rattle.turn_rules.specs.Touched.{step_count, touched_by_step}
use Rattle.sweep_rules.specs.Sweep.{sweep_of}
use Rattle.schedule_rules.specs.Reports.{schedule_of}
use Rattle.schedule_rules.specs.Rows.{bench}
use Rattle.schedule_rules.specs.declared.ScheduleRow.{ScheduleRow}
use Rattle.processor_rules.specs.Calls.{attention_gives, step_gives, power_up_gives, sweep_gives, schedule_gives}

module _ (s : State) (m : Buffers) where
  pub attention-counted : (channel : ℕ) → (attention_gives channel s m).answer.count ≡ counted (attention_number s m channel) (touched_by_attention s m channel)
  unfolding attention_count
  attention-counted channel = refl

  pub power-counted : (power_up_gives s m).answer.count ≡ counted (power_number m) (touched_by_power m)
  unfolding power_count
  power-counted = refl

  pub step-told : (lines : ℕ)
      → ((step_gives lines s m).answer.count ≡ counted (step_of s m lines).number (touched_by_step s m lines))
      × (((step_gives lines s m).answer.channel ≡ (step_of s m lines).channel) × ((step_gives lines s m).answer.kind ≡ (step_of s m lines).kind))
  unfolding step_count
  step-told lines = (refl, (refl, refl))

  pub sweep-told : (channel lines : ℕ)
      → ((sweep_gives channel lines s m).answer.steps ≡ (sweep_of s m channel lines).steps) × ((sweep_gives channel lines s m).answer.count ≡ (sweep_of s m channel lines).count)
  sweep-told channel lines = (refl, refl)

  pub schedule-told : (rows : List ScheduleRow) → (schedule_gives rows s m).answer.report ≡ (schedule_of (bench s m) rows).report
  schedule-told rows = refl
