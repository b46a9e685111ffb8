-- The premises of demand 3 are met by transfers in numbers, computed through to their ends.
-- Assumes nothing.
use borrow.Author.Tests.{eqb-false}
use lib.Dec.{lit≤}
use mathlib.Core.Bool.{true, false}
use mathlib.Core.Path.{◌≡◌, refl, subst}
use native.Mathlib.Omega.{arith}
use Rattle.ground_rules.specs.Cc.{split, same_flag, same_fields}
use Rattle.ground_rules.specs.Outcomes.{unless, first}
use Rattle.ground_rules.specs.Stages.{stages_number}
use Rattle.ground_rules.specs.Psw.{with_psw}
use Rattle.ground_rules.specs.States.{sound_channel, is_running, fields_agree}
use Rattle.ground_rules.specs.declared.Channel.{Channel}
use Rattle.ground_rules.proofs.SpanLaws.{span-at}
use Rattle.ground_rules.specs.Buffers.{Buffers, space_of, limit_of, index_of, lent_at, touchable_at, beyond_in, byte_at, store_byte}
use Rattle.ground_rules.specs.Places.{span, all_pass}
use Rattle.ground_rules.specs.Values.{onward}
use Rattle.transfer_rules.specs.Ends.{meets_tmc, code_if, larger, offset_of, ended_tp, ended_psw, ended_by}
use Rattle.ground_rules.specs.Updates.{with_transfer}
use Rattle.transfer_rules.specs.Reads.{fetched, fetched_second, entry_of, delivered, data_of, also, read_places}
use Rattle.transfer_rules.specs.Sides.{source, destination, word_side, second_address, gained, two_move, stored_singly}
use Rattle.transfer_rules.specs.Parts.{fetches_apart, stores_apart, fetch_part, store_part, part_of}
use Rattle.transfer_rules.specs.Steps.{Transfer, transferred, bad_mode, transfer_of, step_by, number_by, stages_by, channel_by, memory_by, touched_by}
use Rattle.transfer_rules.specs.Stores.{move_over, moved_channel, moved_memory, first_meets, match_met, cut_short, stores_two, bytes_stored, end_code, moved_by, put_on, places_on, stored_places}
use Rattle.ground_rules.proofs.ChoiceLaws.{apart}
use Rattle.ground_rules.specs.Bits.{field_of, bit_of, with_bit}
use Rattle.ground_rules.specs.Compare.{match_of}
use Rattle.block_rules.specs.Premises.{Plain, Copy}
use Rattle.block_rules.specs.Rows.{after, EndsAt}
use Rattle.block_rules.specs.Totals.{narrow, alone, total}
use Rattle.promises.specs.Witness.{running_with, narrow_at, narrow_end, wide_at, wide_end, memory_with, six, memory_start}
use Rattle.block_rules.proofs.Demand3.{demand3}

-- every premise on a channel, both widths 8
narrow-plain : Plain (narrow_at 0 16 5)
unfolding running_with is_running sound_channel fields_agree same_fields same_flag bit_of field_of split
narrow-plain =
    record {
      runs = refl;
      transfers = refl;
      leaves = refl;
      enters = refl;
      unsynchronised = refl;
      untranslated = refl;
      counts = λ e. eqb-false 2 0 refl e;
      unmatched = refl;
      unended = refl;
      ongoing = refl;
      sound = refl;
      agree = refl;
    }

-- and both 16
wide-plain : Plain (wide_at 8 0 5)
unfolding running_with is_running sound_channel fields_agree same_fields same_flag bit_of field_of split
wide-plain =
    record {
      runs = refl;
      transfers = refl;
      leaves = refl;
      enters = refl;
      unsynchronised = refl;
      untranslated = refl;
      counts = λ e. eqb-false 3 0 refl e;
      unmatched = refl;
      unended = refl;
      ongoing = refl;
      sound = refl;
      agree = refl;
    }

-- every premise on the start, both widths 8
pub narrow-met : Copy 5 (narrow_at 0 16 5) memory_start
unfolding running_with memory_with source destination bit_of span all_pass touchable_at lent_at space_of index_of limit_of split
narrow-met =
    record {
      plain = narrow-plain;
      some = lit≤ tt;
      most = lit≤ tt;
      count = refl;
      from_lent = λ i h. span-at (lent_at memory_start) false 0 5 i refl h;
      into_lent = λ i h. span-at (lent_at memory_start) true 16 5 i refl h;
      apart = λ i j h h' e x. apart e;
    }

-- and both 16, in one space
pub wide-met : Copy 5 (wide_at 8 0 5) memory_start
unfolding running_with memory_with source destination bit_of span all_pass touchable_at lent_at space_of index_of limit_of split
wide-met =
    record {
      plain = wide-plain;
      some = lit≤ tt;
      most = lit≤ tt;
      count = refl;
      from_lent = λ i h. span-at (lent_at memory_start) false 0 5 i refl h;
      into_lent = λ i h. span-at (lent_at memory_start) false 8 5 i refl h;
      apart = λ i j h h' e x. omega arith;
    }

-- a transfer step with all that it is made of laid open, so that it computes
unfoldable pub transfer_open : Channel → Buffers → Transfer
unfolding running_with memory_with transfer_of step_by number_by stages_by part_of fetches_apart stores_apart fetch_part store_part channel_by memory_by touched_by stages_number first unless bad_mode source destination read_places also entry_of stored_places places_on all_pass touchable_at lent_at space_of index_of limit_of data_of delivered fetched fetched_second two_move word_side second_address bit_of field_of stores_two cut_short stored_singly first_meets meets_tmc match_met moved_memory put_on store_byte byte_at beyond_in moved_channel move_over ended_by ended_tp ended_psw moved_by with_transfer gained onward bytes_stored end_code code_if larger offset_of with_psw with_bit match_of split
transfer_open c m = transfer_of c m

-- both widths 8: the total is five
pub narrow-total : total (narrow_at 0 16 5) 5 ≡ 5
unfolding total narrow running_with source destination bit_of split
narrow-total = refl

-- and five steps, computed, end it
pub narrow-run : after 5 (narrow_at 0 16 5) memory_start ≡ transferred 0 narrow_end (memory_with (six 0 0 0 0 0) (six 1 2 3 4 5))
unfolding after transfer_open
narrow-run = refl

-- both widths 16 and even: the total is three
pub wide-total : total (wide_at 8 0 5) 5 ≡ 3
unfolding total narrow alone running_with source destination bit_of word_side split
wide-total = refl

-- and three steps, computed, end it
pub wide-run : after 3 (wide_at 8 0 5) memory_start ≡ transferred 0 wide_end (memory_with (six 1 2 3 4 5) (six 0 0 0 0 0))
unfolding after transfer_open
wide-run = refl

-- so says demand 3 of the one
pub narrow-ends : EndsAt 5 (narrow_at 0 16 5) memory_start 5
narrow-ends = subst (EndsAt 5 (narrow_at 0 16 5) memory_start) narrow-total (demand3 narrow-met)

-- and of the other
pub wide-ends : EndsAt 5 (wide_at 8 0 5) memory_start 3
wide-ends = subst (EndsAt 5 (wide_at 8 0 5) memory_start) wide-total (demand3 wide-met)
