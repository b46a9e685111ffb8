-- The call for C: a state's bytes, rows, both memories and the words of a report.
use mathlib.Core.{Bool.true, List.List, Path.◌≡◌}
use Rattle.std.specs.Prelude.{ℕ}
use Rattle.ground_rules.specs.Choice.{pick}
use Rattle.state_rules.specs.Layout.{bytes_of, state_in, is_state}
use Rattle.schedule_rules.specs.{Reports.no_report, Reports.Scheduled, Reports.schedule_of, Reports.put_over, declared.ScheduleRow.ScheduleRow}
use Rattle.schedule_calls.specs.Turns.{Standing, standing, bench_in}

-- what the call leaves: its answer, the state's bytes, both memories and the report's words
pub record ScheduleService : Type 0 where
  pub answer : ℕ
  pub left : Standing

abbrev pub scheduled : ℕ → Standing → ScheduleService
scheduled answer x = record { answer = answer; left = x }

-- a schedule of the state that bytes stand for, told in bytes and words
abbrev pub schedule_left : Scheduled → List ℕ → ScheduleService
schedule_left o words = scheduled o.number (standing (bytes_of o.bench.state) o.bench.memory (put_over o.report words))

-- bytes that are no state: 17, nothing is run, and every count is 0
abbrev pub no_schedule : Standing → ScheduleService
no_schedule x = scheduled 17 (standing x.bytes x.memory (put_over no_report x.words))

-- what the call leaves
unfoldable pub schedule_served : Standing → List ScheduleRow → ScheduleService
schedule_served x rows =
    pick (is_state x.bytes) (schedule_left (schedule_of (bench_in x) rows) x.words) (no_schedule x)

-- what the call promises: that, and that a state's bytes stay such, and then stand for the state that the schedule leaves
abbrev pub ScheduleMet : ℕ → Standing → Standing → List ScheduleRow → Type 0
ScheduleMet answer y x rows =
    (scheduled answer y ≡ schedule_served x rows) × (is_state x.bytes ≡ true → (is_state y.bytes ≡ true) × (state_in y.bytes ≡ (schedule_of (bench_in x) rows).bench.state))
