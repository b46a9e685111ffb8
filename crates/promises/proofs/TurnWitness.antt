-- Two programs that take turns: both channels of a fresh state are started by attention, and four steps are done.
-- Assumes nothing.
use Prim.Native.Nat.{ℕ}
use mathlib.Core.Bool.{Bool, true, false}
use mathlib.Core.List.{[], ◌∷◌}
use mathlib.Core.Path.{◌≡◌, refl}
use Rattle.attention_rules.specs.Attention.{order_to, order_number, channel_attended, ordered_memory, given_to, attention_number, attention_of}
use Rattle.attention_rules.specs.Blocks.{ccw_of, parameter_block, order_of}
use Rattle.attention_rules.specs.Commands.{command_coded, is_known, mode_number, command_number, copied, obeyed, ordered}
use Rattle.attention_rules.specs.Effects.{started as started_by, commanded, channel_ordered, marked, stored_memory}
use Rattle.ground_rules.specs.Cc.{split, same_flag, same_fields}
use Rattle.ground_rules.specs.Updates.{with_control, renewed}
use Rattle.attention_rules.specs.Touched.{read_by, stored_by, others, order_stages}
use Rattle.instruction_rules.specs.Lengths.{length_of, data_length, displacement_length}
use Rattle.instruction_rules.specs.Pairs.{pair_of}
use Rattle.instruction_rules.specs.Reading.{lookup, decode_of}
use Rattle.instruction_rules.specs.Table.{table}
use Rattle.instruction_rules.specs.Control.{nop_deed}
use Rattle.instruction_rules.specs.Execute.{decoded_at, performed, deed_of, later_bytes, later_from, deed_from, stages_from, instruction_stages, execute_number, execute_of}
use Rattle.ground_rules.specs.Outcomes.{outcome, unless, first, settled, given_number}
use Rattle.ground_rules.specs.Psw.{with_psw}
use Rattle.ground_rules.specs.Stages.{stages_number}
use Rattle.ground_rules.specs.States.{board_with, fresh_state, idle_channel, channel_of, with_channel, with_last, sound_channel, sound, is_running, block_of, busy_in, channel_number, is_channel, is_second, fields_agree, agree}
use Rattle.ground_rules.specs.declared.Channel.{Channel}
use Rattle.ground_rules.specs.declared.Mode.TheVariants.{Running}
use Rattle.ground_rules.specs.declared.State.{State}
use Rattle.ground_rules.specs.Buffers.{Buffers, buffers, space_of, limit_of, index_of, lent_at, touchable_at, beyond_in, byte_at, store_byte, within_limits}
use Rattle.ground_rules.specs.Places.{span, all_pass}
use Rattle.ground_rules.specs.Values.{word_at, doubleword_at, pointer, onward}
use Rattle.instruction_rules.specs.Changes.{places_of, changed}
use Rattle.instruction_rules.specs.Marks.{used_up, past_instruction}
use Rattle.turn_rules.specs.Choosing.{requested, external, ends_now, transfer_rank, rank_of, second_wins, ranked, choice_of}
use Rattle.turn_rules.specs.Ranks.{RankThree}
use Rattle.turn_rules.specs.Step.{settled_step, instruction_step, channel_step, chosen_step, entry_number, step_of}
use Rattle.ground_rules.specs.Bits.{field_of, bit_of, with_bit}
use Rattle.promises.specs.Cases.{Programs, Turns, none, turn, started_both}

-- a channel that runs the program at an address, with PB at another
program : ℕ → ℕ → Channel
program tp pp = with_control idle_channel (pointer tp false) pp 4 Running false

-- the state with both started, and where each program has come to
both : ℕ → ℕ → Bool → State
both tp₁ tp₂ last = record { first = program tp₁ 0x10; second = program tp₂ 0x14; cp = 0; last = last; board = board_with true false false false }

-- memory with both BUSY bytes FFh
busy : Buffers
busy =
    buffers
    (0x03 ∷ 0xFF ∷ 0x10 ∷ 0 ∷ 0 ∷ 0 ∷ 0 ∷ 0 ∷ 0x03 ∷ 0xFF ∷ 0x14 ∷ 0 ∷ 0 ∷ 0 ∷ 0 ∷ 0
    ∷ 0x18 ∷ 0 ∷ 0 ∷ 0 ∷ 0x1C ∷ 0 ∷ 0 ∷ 0 ∷ 0 ∷ 0 ∷ 0 ∷ 0 ∷ 0 ∷ 0 ∷ 0 ∷ 0 ∷ [])
    []

-- so the two attentions leave it
both-started : started_both ≡ outcome 0 (both 0x18 0x1C true) busy
unfolding both program busy fresh_state idle_channel attention_of attention_number given_to given_number unless first is_channel within_limits limit_of sound sound_channel agree fields_agree same_fields same_flag split order_number stages_number order_stages order_to order_of block_of busy_in channel_of is_second ccw_of command_coded field_of parameter_block doubleword_at word_at byte_at beyond_in index_of space_of all_pass touchable_at lent_at span command_number is_known mode_number is_running others read_by stored_by settled ordered_memory stored_memory marked store_byte channel_attended channel_ordered commanded started_by ordered copied obeyed with_psw with_bit bit_of with_control with_channel
both-started = refl

-- wherever they have come to, they are such programs
both-programs : (tp₁ tp₂ : ℕ) (last : Bool) → Programs (both tp₁ tp₂ last)
unfolding both program with_control idle_channel channel_of bit_of split
both-programs tp₁ tp₂ last = record { unchained = unchained; equal = refl }
  where
    unchained : (second : Bool) → RankThree (channel_of (both tp₁ tp₂ last) second)
    unchained true = (refl, refl, refl)
    unchained false = (refl, refl, refl)

-- four steps of them, each a NOP
pub started-turns : Turns started_both.state started_both.memory (1 ∷ 2 ∷ 1 ∷ 2 ∷ [])
unfolding both program busy with_control step_of entry_number given_number first unless within_limits limit_of space_of index_of touchable_at lent_at byte_at beyond_in all_pass span sound sound_channel agree fields_agree same_fields same_flag split idle_channel channel_of with_channel with_last is_running block_of channel_number requested external ends_now transfer_rank rank_of second_wins ranked choice_of settled_step busy_in instruction_step channel_step chosen_step field_of bit_of decoded_at performed deed_of later_bytes later_from deed_from stages_from instruction_stages stages_number execute_number execute_of onward renewed used_up past_instruction nop_deed places_of changed pair_of lookup decode_of table length_of data_length displacement_length
started-turns =
    rw both-started
    (turn (both-programs 0x18 0x1C true) 0 refl
    (turn (both-programs 0x1A 0x1C false) 0 refl
    (turn (both-programs 0x1A 0x1E true) 0 refl
    (turn (both-programs 0x1C 0x1E false) 0 refl none))))
