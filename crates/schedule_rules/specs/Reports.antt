-- The report of a schedule, what the whole call leaves, and the report in lent words (§15).
use mathlib.Core.{Bool.Bool, Bool.true, Bool.false, List.List, List.[], List.◌∷◌, List.◌++◌, List.map}
use Rattle.std.specs.Prelude.{ℕ, ◌+◌, replicate}
use Rattle.ground_rules.specs.Choice.{pick}
use Rattle.schedule_rules.specs.Counts.{RowCount, over_rows, accepted_at, refused_at, attended_at, rejected_at, instruction_at, transfer_at, stored_at, end_at, wait_at}
use Rattle.schedule_rules.specs.{Rows.Bench, Rows.all_known, Rows.rows_left, declared.ScheduleRow.ScheduleRow}

-- what is counted of a channel, in its order: attentions done and refused, instructions, transfer steps, bytes stored, external ends, waiting
-- rows (§15.2)
abbrev pub channel_counts : Bool → List RowCount
channel_counts second =
    attended_at second ∷ rejected_at second ∷ instruction_at second ∷ transfer_at second ∷ stored_at second ∷ end_at second ∷ wait_at second ∷ []

-- all that is counted: rows done and refused, then channel 1, then channel 2 (§15.2)
abbrev pub all_counts : List RowCount
all_counts = accepted_at ∷ refused_at ∷ channel_counts false ++ channel_counts true

-- the report, sixteen words: each count over rows
unfoldable pub report_of : Bench → List ScheduleRow → List ℕ
report_of p rows = map (λ f. over_rows f p rows) all_counts

-- no count at all
abbrev pub no_report : List ℕ
no_report = replicate 16 0

-- two reports added, count by count
unfoldable pub both_reports : List ℕ → List ℕ → List ℕ
both_reports [] b = []
both_reports (x ∷ a) [] = []
both_reports (x ∷ a) (y ∷ b) = (x + y) ∷ both_reports a b

-- the number of a schedule, the bench after it and the report
pub record Scheduled : Type 0 where
  pub number : ℕ
  pub bench : Bench
  pub report : List ℕ

-- every row was run, one after the other
abbrev pub all_run : Bench → List ScheduleRow → Scheduled
all_run p rows = record { number = 0; bench = rows_left p rows; report = report_of p rows }

-- 16: no row was run, and nothing counted (§15.1)
abbrev pub none_run : Bench → Scheduled
none_run p = record { number = 16; bench = p; report = no_report }

-- what a schedule leaves: where every row is of a known kind they are run, else none is (§15.1)
unfoldable pub schedule_of : Bench → List ScheduleRow → Scheduled
schedule_of p rows = pick (all_known rows) (all_run p rows) (none_run p)

-- a report put over lent words: as many of its words as have room, and those behind them stay
unfoldable pub put_over : List ℕ → List ℕ → List ℕ
put_over [] ys = ys
put_over (x ∷ xs) [] = []
put_over (x ∷ xs) (y ∷ ys) = x ∷ put_over xs ys
