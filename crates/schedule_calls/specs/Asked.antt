-- What a row asks for, as the code has it: an attention, a step, or why it is neither.
use Rattle.std.specs.Prelude.{Bool, ◌||◌, Result, Ok, Err}
use Rattle.ground_rules.specs.Choice.{pick}
use Rattle.ground_rules.specs.declared.Refusal.{Refusal}
use Rattle.ground_rules.specs.declared.Refusal.TheVariants.{UnknownRow}
use Rattle.schedule_rules.specs.Rows.{is_attention, is_step}
use Rattle.schedule_rules.specs.declared.ScheduleRow.{ScheduleRow}
use Rattle.schedule_calls.specs.declared.rows.RowKind.{RowKind}
use Rattle.schedule_calls.specs.declared.rows.RowKind.TheVariants.{Attention, Step}

-- whether it is of a known kind
abbrev pub is_known_row : ScheduleRow → Bool
is_known_row r = is_attention r || is_step r

-- by its kind
abbrev pub row_asked : ScheduleRow → Result RowKind Refusal
row_asked r = pick (is_attention r) (Ok (Attention r.value)) (pick (is_step r) (Ok (Step r.value)) (Err UnknownRow))
