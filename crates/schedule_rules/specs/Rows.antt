-- The rows of a schedule: which are known, the number of each, and what they leave (§15.1).
use mathlib.Core.{Bool.Bool, Bool.true, Bool.◌&&◌, Bool.◌||◌, List.List, List.[], List.◌∷◌}
use Rattle.std.specs.Prelude.{ℕ, eqb}
use Rattle.ground_rules.specs.{Choice.pick, Buffers.Buffers, declared.State.State}
use Rattle.attention_rules.specs.Attention.{attention_of}
use Rattle.turn_rules.specs.Step.{step_of}
use Rattle.schedule_rules.specs.declared.ScheduleRow.{ScheduleRow}

-- a row of kind 1 is an attention to the channel that its value names (§15.1)
abbrev pub is_attention : ScheduleRow → Bool
is_attention r = eqb r.kind 1

-- a row of kind 2 is a step with its value as the line number (§15.1)
abbrev pub is_step : ScheduleRow → Bool
is_step r = eqb r.kind 2

-- every row is one or the other (else 16, §15.1)
unfoldable pub all_known : List ScheduleRow → Bool
all_known [] = true
all_known (r ∷ rows) = (is_attention r || is_step r) && all_known rows

-- what stands on the bench: a state with both memories
pub record Bench : Type 0 where
  pub state : State
  pub memory : Buffers

abbrev pub bench : State → Buffers → Bench
bench s m = record { state = s; memory = m }

-- the number of a row, by its own call (§15.1)
unfoldable pub row_number : Bench → ScheduleRow → ℕ
row_number p r =
    pick (is_attention r) (attention_of p.state p.memory r.value).number (step_of p.state p.memory r.value).number

-- what a row leaves (§15.1)
unfoldable pub row_left : Bench → ScheduleRow → Bench
row_left p r =
    let a = attention_of p.state p.memory r.value in
    let t = step_of p.state p.memory r.value in
    pick (is_attention r) (bench a.state a.memory) (bench t.state t.memory)

-- what rows leave, one after the other (§15.1)
unfoldable pub rows_left : Bench → List ScheduleRow → Bench
rows_left p [] = p
rows_left p (r ∷ rows) = rows_left (row_left p r) rows
