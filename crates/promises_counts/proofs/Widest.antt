-- The instruction that touches ten bytes, computed.
-- Assumes nothing.
use mathlib.Core.Path.{refl}
use Rattle.ground_rules.specs.Bits.{field_of, bit_of}
use Rattle.ground_rules.specs.Signs.{extended}
use Rattle.ground_rules.specs.Buffers.{space_of, limit_of, index_of, lent_at, touchable_at, beyond_in, byte_at, store_byte, within_limits}
use Rattle.ground_rules.specs.Places.{span, all_pass}
use Rattle.ground_rules.specs.Values.{onward, word_at}
use Rattle.ground_rules.specs.Cc.{split, same_flag, same_fields}
use Rattle.ground_rules.specs.Outcomes.{unless, first, counted, given_number}
use Rattle.ground_rules.specs.Registers.{base_of}
use Rattle.ground_rules.specs.Stages.{stages_number, stages_touched}
use Rattle.ground_rules.specs.States.{idle_channel, fresh_state, channel_of, with_channel, with_last, sound_channel, sound, is_running, block_of, busy_in, channel_number, fields_agree, agree}
use Rattle.ground_rules.specs.Updates.{with_control, renewed}
use Rattle.instruction_rules.specs.Lengths.{offset_length, data_length, displacement_length, length_of}
use Rattle.instruction_rules.specs.Reading.{lookup, decode_of, second_of}
use Rattle.instruction_rules.specs.Table.{table}
use Rattle.instruction_rules.specs.Pairs.{pair_of}
use Rattle.instruction_rules.specs.Changes.{places_of, changed}
use Rattle.instruction_rules.specs.Marks.{used_up, past_instruction}
use Rattle.instruction_rules.specs.Operands.{further, indexed, effective, grown, operand_at}
use Rattle.instruction_rules.specs.MemoryForms.{mov_operand_deed, mov_second_deed, second_at, mov_memory_deed}
use Rattle.instruction_rules.specs.Execute.{decoded_at, performed, deed_of, later_bytes, deed_from, later_from, stages_from, instruction_stages, execute_number, touched_by_instruction, execute_of}
use Rattle.turn_rules.specs.Choosing.{requested, external, ends_now, transfer_rank, rank_of, second_wins, ranked, choice_of}
use Rattle.turn_rules.specs.Step.{settled_step, instruction_step, channel_step, chosen_step, entry_number, step_of}
use Rattle.turn_rules.specs.Touched.{touched_in, touched_by_step, step_count}
use Rattle.promises_counts.specs.Widest.{widest_state, widest_memory, WidestCounts}

pub widest-counts : WidestCounts
unfolding widest_state widest_memory field_of bit_of extended space_of limit_of index_of lent_at touchable_at beyond_in byte_at store_byte within_limits span all_pass onward word_at unless first given_number base_of stages_number stages_touched idle_channel fresh_state channel_of with_channel with_last sound_channel agree fields_agree same_fields same_flag split sound is_running block_of busy_in channel_number with_control renewed offset_length data_length displacement_length length_of lookup decode_of second_of table pair_of places_of changed used_up past_instruction further indexed effective grown operand_at mov_operand_deed mov_second_deed second_at mov_memory_deed decoded_at performed deed_of later_bytes deed_from later_from stages_from instruction_stages execute_number touched_by_instruction execute_of requested external ends_now transfer_rank rank_of second_wins ranked choice_of settled_step instruction_step channel_step chosen_step entry_number step_of touched_in touched_by_step step_count counted
widest-counts = record { done = refl; executes = refl; low = refl; high = refl; ten = refl }
