-- Some schedules in numbers: who waits, what is refused and for whom, rows of an unknown kind, and what the halves of a pair store.
-- Assumes nothing.
use Rattle.std.proofs.Common.{None}
use mathlib.Core.{Bool.true, Bool.false, List.List, List.[], List.◌∷◌, List.◌++◌, Path.◌≡◌, Path.refl}
use Prim.Native.Nat.{ℕ}
use native.Mathlib.Omega.{arith}
use lib.ListN.{replicate}
use Rattle.ground_rules.specs.declared.{Channel.Channel, Mode.TheVariants.Running}
use Rattle.ground_rules.specs.Buffers.{buffers, space_of, limit_of, index_of, lent_at, touchable_at, beyond_in, byte_at, store_byte, within_limits}
use Rattle.ground_rules.specs.States.{board_with, channel_of, with_channel, with_last, sound_channel, sound, is_running, fields_agree, agree}
use Rattle.ground_rules.specs.{Cc.split, Cc.same_flag, Cc.same_fields, Outcomes.unless, Outcomes.first, Outcomes.given_number, Psw.with_psw, Stages.stages_number}
use Rattle.ground_rules.specs.{Updates.with_transfer, Bits.field_of, Bits.bit_of, Bits.with_bit, Compare.match_of, Places.all_pass, Values.pointer, Values.onward}
use Rattle.attention_rules.proofs.Numbers.{number-exactly}
use Rattle.transfer_rules.specs.{Ends.meets_tmc, Ends.code_if, Ends.larger, Ends.offset_of, Ends.ended_tp, Ends.ended_psw, Ends.ended_by, Halves.word_with, Parts.fetches_apart, Parts.stores_apart, Parts.fetch_part, Parts.store_part, Parts.part_of}
use Rattle.transfer_rules.specs.Stores.{move_over, moved_channel, moved_memory, first_meets, match_met, cut_short, stores_two, bytes_stored, end_code, moved_by, put_on, places_on, stored_places}
use Rattle.transfer_rules.specs.Reads.{fetched, fetched_second, entry_of, delivered, data_of, also, read_places}
use Rattle.transfer_rules.specs.Sides.{source, destination, word_side, second_address, gained, two_move, stored_singly}
use Rattle.transfer_rules.specs.Steps.{bad_mode, transfer_of, step_by, number_by, stages_by, channel_by, memory_by, touched_by}
use Rattle.turn_rules.specs.Choosing.{requested, external, ends_now, transfer_rank, rank_of, second_wins, ranked, choice_of}
use Rattle.turn_rules.specs.Step.{settled_step, transfer_step, channel_step, chosen_step, entry_number, step_of}
use Rattle.schedule_rules.specs.Rows.{Bench, bench, all_known, row_left}
use Rattle.schedule_rules.specs.{Counts.stores_by, Counts.waits_for_drq, Reports.report_of, Reports.schedule_of, declared.ScheduleRow.ScheduleRow}
use Rattle.schedule_rules.proofs.RowLaws.{counts_open}

-- a row, by its kind
abbrev row : ℕ → ℕ → ScheduleRow
row kind value = record { kind = kind; value = value }

-- two channels that transfer from I/O address 16 to system address 8 with this CC, over sixteen bytes of system memory and eighteen of I/O memory
abbrev pair_with : ℕ → Bench
pair_with cc =
    let c : Channel = record {
      ga = pointer 16 true;
      gb = pointer 8 false;
      gc = pointer 0 false;
      tp = pointer 256 false;
      pp = 0;
      bc = 4;
      ix = 0;
      cc = cc;
      mc = 0;
      held = None;
      psw = 0x45;
      mode = Running;
      armed = false;
      fields = split cc;
    } in
    bench (record { first = c; second = c; cp = 0; last = true; board = board_with true false false false }) (buffers (replicate 16 0) (replicate 18 7))

-- SYN 01 with two fetches for a word, and SYN 11
abbrev fetches : Bench
fetches = pair_with 0x8810

abbrev never : Bench
never = pair_with 0x9810

-- a report with all that it is made of laid open, so that it computes
unfoldable report_open : Bench → List ScheduleRow → List ℕ
unfolding counts_open stores_by waits_for_drq row_left step_of chosen_step channel_step transfer_step settled_step choice_of ends_now external requested rank_of transfer_rank second_wins ranked is_running entry_number given_number within_limits sound sound_channel agree fields_agree same_fields same_flag split channel_of with_channel with_last transfer_of step_by number_by stages_by part_of fetches_apart stores_apart fetch_part store_part channel_by memory_by touched_by stages_number first unless bad_mode source destination read_places also entry_of stored_places places_on all_pass touchable_at lent_at space_of index_of limit_of data_of delivered fetched fetched_second two_move word_side second_address bit_of field_of stores_two cut_short stored_singly first_meets meets_tmc match_met moved_memory put_on store_byte byte_at beyond_in moved_channel move_over ended_by ended_tp ended_psw moved_by with_transfer gained onward bytes_stored end_code code_if larger offset_of with_psw with_bit match_of word_with
report_open p rows = report_of p rows

-- with no DRQ up nobody steps, and both channels wait
both-wait : report_of fetches (row 2 0 ∷ []) ≡ 0 ∷ 1 ∷ (replicate 6 0 ++ (1 ∷ [])) ++ (replicate 6 0 ++ (1 ∷ []))
unfolding report_open
both-wait = refl

-- SYN 11 does not wait: its step is refused
never-waits : report_of never (row 2 0 ∷ []) ≡ 0 ∷ 1 ∷ replicate 14 0
unfolding report_open
never-waits = refl

-- a line number of 16 is refused, and nobody was found waiting
sixteen-lines : report_of fetches (row 2 16 ∷ []) ≡ 0 ∷ 1 ∷ replicate 14 0
unfolding report_open
sixteen-lines = refl

-- channel 1's DRQ up in two rows: two fetches, of which the second stores the word; channel 2 waited in both
two-halves : report_of fetches (row 2 1 ∷ row 2 1 ∷ []) ≡ 2 ∷ 0 ∷ (0 ∷ 0 ∷ 0 ∷ 2 ∷ 2 ∷ 0 ∷ 0 ∷ []) ++ (replicate 6 0 ++ (2 ∷ []))
unfolding report_open
two-halves = refl

-- an attention to channel 3 counts over all and for neither channel
third-channel : (p : Bench) → report_of p (row 1 3 ∷ []) ≡ 0 ∷ 1 ∷ replicate 14 0
unfolding counts_open
third-channel p = rw ((number-exactly p.state p.memory 3 12).1 (λ e. absurd (omega arith), λ e. absurd (omega arith)))

-- a row of kind 3 behind one that could have run: nothing is run, and nothing counted
unknown-last : schedule_of fetches (row 2 1 ∷ row 3 1 ∷ []) ≡ record { number = 16; bench = fetches; report = replicate 16 0 }
unfolding schedule_of all_known
unknown-last = refl
