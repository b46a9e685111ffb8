-- What stands between two rows, and what one row makes of it.
use mathlib.Core.{Bool.true, List.List, List.[], List.◌∷◌, Path.◌≡◌}
use Rattle.std.specs.Prelude.{ℕ}
use Rattle.ground_rules.specs.Buffers.{Buffers}
use Rattle.state_rules.specs.Layout.{bytes_of, state_in, is_state}
use Rattle.schedule_rules.specs.{Reports.report_of, Rows.Bench, Rows.bench, Rows.row_left, declared.ScheduleRow.ScheduleRow}
use Rattle.schedule_calls.specs.Words.{added_on}

-- a state's bytes, both memories and the report's words
pub record Standing : Type 0 where
  pub bytes : List ℕ
  pub memory : Buffers
  pub words : List ℕ

abbrev pub standing : List ℕ → Buffers → List ℕ → Standing
standing b m w = record { bytes = b; memory = m; words = w }

-- the bench that stands there
abbrev pub bench_in : Standing → Bench
bench_in x = bench (state_in x.bytes) x.memory

-- bytes that are a state, and what it is put as
pub record StateBytes (b : List ℕ) : Type 0 where
  pub is : is_state b ≡ true
  pub back : bytes_of (state_in b) ≡ b

-- what a row makes of a state: the bench is what it leaves, the words have its own report added, and the bytes are a state
pub record RowRun (r : ScheduleRow) (x y : Standing) : Type 0 where
  pub bench : bench_in y ≡ row_left (bench_in x) r
  pub words : y.words ≡ added_on (report_of (bench_in x) (r ∷ [])) x.words
  pub state : StateBytes y.bytes

-- a row that is an attention to a channel
abbrev pub attention_row : ℕ → ScheduleRow
attention_row channel = record { kind = 1; value = channel }

-- a row that is a step with a line number
abbrev pub step_row : ℕ → ScheduleRow
step_row lines = record { kind = 2; value = lines }
