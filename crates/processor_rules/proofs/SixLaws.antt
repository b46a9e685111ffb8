-- Each of the six calls on two processors keeps what is promised of every lifted call, and has its own numbers behind 12 for the processor.
-- Assumes nothing.
use Prim.Native.Nat.{ℕ}
use mathlib.Core.Bool.{Bool, true, false}
use mathlib.Core.List.{List, []}
use mathlib.Core.Path.{◌≡◌, refl, sym, ap, ◌∙◌}
use Rattle.ground_rules.specs.Choice.{pick}
use Rattle.ground_rules.proofs.ConditionLaws.{rewritten}
use Rattle.ground_rules.specs.Outcomes.{Outcome}
use Rattle.attention_rules.proofs.Numbers.{given-exactly}
use Rattle.attention_rules.proofs.Outcomes.{refused-nothing}
use Rattle.attention_rules.specs.Conditions.{attention_checks}
use Rattle.attention_rules.proofs.PowerNumbers.{power-given}
use Rattle.attention_rules.proofs.PowerOutcomes.{power-refused}
use Rattle.attention_rules.specs.PowerConditions.{power_checks}
use Rattle.turn_rules.proofs.NumberLaws.{number-given}
use Rattle.turn_rules.proofs.OutcomeLaws.{refused}
use Rattle.turn_rules.specs.Conditions.{step_checks}
use Rattle.turn_rules.specs.Step.{Step}
use Rattle.turn_rules.specs.declared.Kind.TheVariants.{Nothing}
use Rattle.sweep_rules.proofs.ConditionLaws.{sweep-given}
use Rattle.sweep_rules.proofs.PassedLaws.{refused-sweep, number_is}
use Rattle.sweep_rules.specs.Conditions.{sweep_checks}
use Rattle.sweep_rules.specs.Sweep.{Sweep}
use Rattle.schedule_rules.proofs.ScheduleLaws.{schedule-given}
use Rattle.schedule_rules.specs.Conditions.{schedule_checks}
use Rattle.schedule_rules.specs.Reports.{no_report, all_run, none_run, schedule_of}
use Rattle.schedule_rules.specs.Rows.{Bench, bench, all_known}
use Rattle.schedule_rules.specs.declared.ScheduleRow.{ScheduleRow}
use Rattle.processor_rules.specs.Calls.{CallAnswer, StepAnswer, SweepAnswer, ScheduleAnswer, call_answer, step_answer, sweep_answer, schedule_answer, attention_gives, step_gives, reset_gives, power_up_gives, sweep_gives, schedule_gives, attention_on, step_on, reset_on, power_up_on, sweep_on, schedule_on}
use Rattle.processor_rules.specs.Lifts.{SixCalls}
use Rattle.processor_rules.proofs.LiftLaws.{lifts, lifted-numbers}

-- a schedule that gives a number leaves the bench
pub schedule-stays : (p : Bench) (rows : List ScheduleRow) → ¬ ((schedule_of p rows).number ≡ 0) → (schedule_of p rows).bench ≡ p
unfolding schedule_of
schedule-stays p rows = go (all_known rows)
  where
    go : (b : Bool) → ¬ ((pick b (all_run p rows) (none_run p)).number ≡ 0) → (pick b (all_run p rows) (none_run p)).bench ≡ p
    go true h = absurd (h refl)
    go false h = refl

pub six-calls : SixCalls
unfolding attention_on step_on reset_on power_up_on sweep_on schedule_on
six-calls =
    record {
      attention = λ channel. lifts (attention_gives channel) (call_answer 12 0);
      attention_numbers = λ channel.
          lifted-numbers (attention_gives channel) (call_answer 12 0) (λ (a : CallAnswer). a.number) (λ s m. attention_checks s m channel) refl
          (λ s m n. given-exactly s m channel n)
          (λ s m h. let e = refused-nothing s m channel h in (ap (λ (o : Outcome). o.state) e, ap (λ (o : Outcome). o.memory) e));
      step = λ lines. lifts (step_gives lines) (step_answer 12 0 0 Nothing);
      step_numbers = λ lines.
          lifted-numbers (step_gives lines) (step_answer 12 0 0 Nothing) (λ (a : StepAnswer). a.number) (λ s m. step_checks s m lines) refl
          (λ s m n. number-given s m lines n)
          (λ s m h. let e = refused s m lines h in (ap (λ (o : Step). o.state) e, ap (λ (o : Step). o.memory) e));
      reset = lifts reset_gives 12;
      reset_numbers = lifted-numbers reset_gives 12 (λ (a : ℕ). a) (λ s m. []) refl (λ s m n. (sym, sym)) (λ s m h. absurd (h refl));
      power_up = lifts power_up_gives (call_answer 12 0);
      power_up_numbers =
          lifted-numbers power_up_gives (call_answer 12 0) (λ (a : CallAnswer). a.number) (λ s m. power_checks m) refl power-given
          (λ s m h. let e = power-refused s m h in (ap (λ (o : Outcome). o.state) e, ap (λ (o : Outcome). o.memory) e));
      sweep = λ channel lines. lifts (sweep_gives channel lines) (sweep_answer 12 0 0);
      sweep_numbers = λ channel lines.
          lifted-numbers (sweep_gives channel lines) (sweep_answer 12 0 0) (λ (a : SweepAnswer). a.number) (λ s m. sweep_checks s m channel lines) refl
          (λ s m n. rewritten (number_is s m channel lines) (sweep-given s m channel lines n))
          (λ s m h.
          let e = refused-sweep s m channel lines (λ z. h (number_is s m channel lines ∙ z)) in
          (ap (λ (o : Sweep). o.state) e, ap (λ (o : Sweep). o.memory) e));
      schedule = λ rows. lifts (schedule_gives rows) (schedule_answer 12 no_report);
      schedule_numbers = λ rows.
          lifted-numbers (schedule_gives rows) (schedule_answer 12 no_report) (λ (a : ScheduleAnswer). a.number) (λ s m. schedule_checks rows) refl
          (λ s m n. schedule-given (bench s m) rows n)
          (λ s m h. let e = schedule-stays (bench s m) rows h in (ap (λ (x : Bench). x.state) e, ap (λ (x : Bench). x.memory) e));
    }
