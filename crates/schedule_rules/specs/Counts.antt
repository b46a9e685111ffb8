-- What is counted of a row, each count from the row and the bench before it by a definition of its own, and summed over rows (§15.2).
use mathlib.Core.{Bool.Bool, Bool.true, Bool.false, Bool.not, Bool.◌&&◌, Bool.◌||◌, List.List, List.[], List.◌∷◌}
use Rattle.std.specs.Prelude.{ℕ, ◌+◌}
use lib.{Dec.eqb, Dec.ltb, ListN.length}
use Rattle.ground_rules.specs.States.{channel_of, channel_number, is_running}
use Rattle.ground_rules.specs.{Choice.pick, Buffers.Buffers, Places.Place, Psw.transferring, declared.Channel.Channel}
use Rattle.attention_rules.specs.Attention.{attention_of}
use Rattle.transfer_rules.specs.{Parts.Part, Parts.Whole, Parts.FirstFetch, Parts.SecondFetch, Parts.FirstStore, Parts.SecondStore, Parts.part_of, Reads.data_of, Sides.destination, Stores.places_on, Stores.stored_places}
use Rattle.transfer_rules.specs.Halves.{first_place, second_place}
use Rattle.turn_rules.specs.declared.Kind.{Kind, TheVariants.Nothing, TheVariants.Instruction, TheVariants.Transfer, TheVariants.External}
use Rattle.turn_rules.specs.{Choosing.requested, Step.Step, Step.step_of}
use Rattle.schedule_rules.specs.{Rows.Bench, Rows.is_attention, Rows.is_step, Rows.row_number, Rows.row_left, declared.ScheduleRow.ScheduleRow}

-- what is counted of a row and the bench before it
abbrev pub RowCount : Type 0
RowCount = Bench → ScheduleRow → ℕ

-- that summed over rows
unfoldable pub over_rows : RowCount → Bench → List ScheduleRow → ℕ
over_rows f p [] = 0
over_rows f p (r ∷ rows) = f p r + over_rows f (row_left p r) rows

-- 1 where a test holds
abbrev pub once_if : Bool → ℕ
once_if holds = pick holds 1 0

-- ---- over all

-- a row that is done (§15.2)
unfoldable pub accepted_at : RowCount
accepted_at p r = once_if (eqb (row_number p r) 0)

-- a row that is refused (§15.2)
unfoldable pub refused_at : RowCount
refused_at p r = once_if (not (eqb (row_number p r) 0))

-- ---- attentions to a channel

-- a row is an attention to this channel
abbrev pub is_attention_to : Bool → ScheduleRow → Bool
is_attention_to second r = is_attention r && eqb r.value (channel_number second)

-- one that is done (§15.2)
unfoldable pub attended_at : Bool → RowCount
attended_at second p r = once_if (is_attention_to second r && eqb (attention_of p.state p.memory r.value).number 0)

-- one that is refused (§15.2)
unfoldable pub rejected_at : Bool → RowCount
rejected_at second p r = once_if (is_attention_to second r && not (eqb (attention_of p.state p.memory r.value).number 0))

-- ---- done steps of a channel

-- the kinds of a step, told apart
abbrev pub is_instruction : Kind → Bool
is_instruction = elim [ Nothing ↦ false | Instruction ↦ true | Transfer ↦ false | External ↦ false ]

abbrev pub is_transfer : Kind → Bool
is_transfer = elim [ Nothing ↦ false | Instruction ↦ false | Transfer ↦ true | External ↦ false ]

abbrev pub is_external : Kind → Bool
is_external = elim [ Nothing ↦ false | Instruction ↦ false | Transfer ↦ false | External ↦ true ]

-- a step was done, by this channel, and its kind passes
abbrev pub is_done : (Kind → Bool) → Bool → Step → Bool
is_done kind second t = eqb t.number 0 && eqb t.channel (channel_number second) && kind t.kind

-- a row is such a step
unfoldable pub done_at : (Kind → Bool) → Bool → Bench → ScheduleRow → Bool
done_at kind second p r = is_step r && is_done kind second (step_of p.state p.memory r.value)

-- an instruction (§15.2)
unfoldable pub instruction_at : Bool → RowCount
instruction_at second p r = once_if (done_at is_instruction second p r)

-- a transfer step, each half of a pair too (§15.2, §7.14)
unfoldable pub transfer_at : Bool → RowCount
transfer_at second p r = once_if (done_at is_transfer second p r)

-- an external end (§15.2)
unfoldable pub end_at : Bool → RowCount
end_at second p r = once_if (done_at is_external second p r)

-- ---- bytes that transfer steps store

-- the places that a transfer step of a part stores to, empty slots too; a store that a match prevents is none (§1.3, §7.8)
unfoldable pub stores_by : Part → Channel → Buffers → List Place
stores_by Whole c m = stored_places c (data_of c m)
stores_by FirstFetch c m = []
stores_by (SecondFetch byte) c m = places_on (destination c) true
stores_by FirstStore c m = first_place (destination c) ∷ []
stores_by (SecondStore byte) c m = second_place (destination c) ∷ []

-- how many bytes a row stores that is a transfer step of this channel (§15.2)
unfoldable pub stored_at : Bool → RowCount
stored_at second p r =
    let c = channel_of p.state second in
    pick (done_at is_transfer second p r) (length (stores_by (part_of c) c p.memory)) 0

-- ---- rows that found a channel waiting

-- a channel waits for its DRQ: it runs with XF, its fields have SYN 01 or 10, and DRQ is down (§15.2)
unfoldable pub waits_for_drq : Channel → Bool → Bool
waits_for_drq c drq =
    is_running c.mode && transferring c.psw && (eqb c.fields.synchronised 1 || eqb c.fields.synchronised 2) && not drq

-- a step row with a line number up to 15 that found this channel so, whatever becomes of the row (§15.2)
unfoldable pub wait_at : Bool → RowCount
wait_at second p r = once_if (is_step r && ltb r.value 16 && waits_for_drq (channel_of p.state second) (requested r.value second))
