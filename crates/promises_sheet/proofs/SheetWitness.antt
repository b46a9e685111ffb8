-- The sheet's premises can be met, in numbers: a start by 001, an LPD with AA 11, and a JZ that jumps.
-- Assumes nothing.
use Prim.Native.Nat.{ℕ, zero, suc, ◌+◌, ◌<◌}
use lib.Dec.{lit<, lit≤}
use lib.ListN.{get_or}
use mathlib.Core.Bool.{true, false}
use mathlib.Core.List.{[], ◌∷◌}
use mathlib.Core.Path.{◌≡◌, refl}
use native.Mathlib.Omega.{arith}
use Rattle.attention_rules.specs.Attention.{order_to, order_number, given_to, attention_number, attention_of}
use Rattle.attention_rules.specs.Blocks.{ccw_of, parameter_block, order_of}
use Rattle.attention_rules.specs.Commands.{command_coded, is_known, mode_number, command_number}
use Rattle.attention_rules.specs.Touched.{read_by, stored_by, others, order_stages}
use Rattle.ground_rules.specs.Cc.{split, same_flag, same_fields}
use Rattle.ground_rules.specs.Outcomes.{unless, first, settled, given_number}
use Rattle.ground_rules.specs.Stages.{stages_number}
use Rattle.ground_rules.specs.States.{fresh_state, idle_channel, channel_of, sound, sound_channel, is_running, block_of, busy_in, is_channel, is_second, channel_number, with_last, fields_agree, agree}
use Rattle.ground_rules.specs.declared.State.{State}
use Rattle.ground_rules.specs.Buffers.{Buffers, buffers, space_of, limit_of, index_of, lent_at, touchable_at, beyond_in, byte_at, within_limits}
use Rattle.ground_rules.specs.Places.{span, all_pass}
use Rattle.ground_rules.specs.Values.{pointer, word_at, doubleword_at, onward}
use Rattle.ground_rules.specs.Bits.{field_of, bit_of}
use Rattle.promises_sheet.specs.SheetAttention.{channel_after, Attends}
use Rattle.promises_sheet.proofs.SheetAttention.{attention-sheet}
use Rattle.instruction_rules.specs.Lengths.{length_of, data_length, displacement_length, offset_length}
use Rattle.instruction_rules.specs.Pairs.{pair_of}
use Rattle.instruction_rules.specs.Reading.{lookup, decode_of}
use Rattle.instruction_rules.specs.Table.{table}
use Rattle.instruction_rules.specs.Execute.{decoded_at, performed, deed_of, later_bytes, later_from, deed_from, stages_from, instruction_stages, execute_number, execute_of}
use Rattle.ground_rules.specs.Registers.{by_rrr, register_of, with_register, base_of}
use Rattle.instruction_rules.specs.Changes.{places_of, changed}
use Rattle.instruction_rules.specs.Marks.{used_up, past_instruction}
use Rattle.instruction_rules.specs.Operands.{indexed, effective, grown, displacement_at, landing, jumped_if}
use Rattle.ground_rules.specs.Updates.{renewed}
use Rattle.turn_rules.specs.Choosing.{requested, external, ends_now, transfer_rank, rank_of, second_wins, ranked, choice_of}
use Rattle.turn_rules.specs.Step.{settled_step, instruction_step, channel_step, chosen_step, entry_number, step_of}
use Rattle.ground_rules.specs.Signs.{signed_of, displaced_by}
use Rattle.instruction_rules.specs.RegisterForms.{lpd_deed}
use Rattle.instruction_rules.specs.JumpForms.{jump_register_deed}
use Rattle.promises.specs.Witness.{running_with, both_with, program_at, bytes_from}
use Rattle.promises_sheet.specs.SheetOperands.{PairRan, ran_channel}
use Rattle.promises.specs.SheetWords.{register_values}
use Rattle.promises_sheet.proofs.SheetRegisters.{register-sheet}
use Rattle.promises.proofs.InstructionWitness.{executes-met}

-- a block that starts channel 1 by 001 (CCW 01h), PB at 8, and in it 1234h
abbrev started : Buffers
started = buffers (0x01 ∷ 0 ∷ 8 ∷ 0 ∷ 0 ∷ 0 ∷ 0 ∷ 0 ∷ 0x34 ∷ 0x12 ∷ []) []

start-met : Attends false (fresh_state 0) started 1
unfolding attention_of attention_number given_to given_number order_number order_to order_of ccw_of parameter_block command_coded command_number is_known mode_number read_by stored_by others order_stages stages_number settled first unless sound sound_channel agree fields_agree same_fields same_flag split fresh_state idle_channel channel_of is_running block_of busy_in is_channel is_second channel_number space_of limit_of index_of touchable_at lent_at byte_at beyond_in within_limits span all_pass word_at doubleword_at field_of bit_of
start-met = record { done = refl; code = refl }

-- TP is 1234h in I/O space
pub start-leaves : (channel_after (fresh_state 0) started false).tp ≡ pointer 0x1234 true
unfolding byte_at beyond_in space_of index_of limit_of fresh_state
start-leaves = ((attention-sheet false (fresh_state 0) started).start_local start-met).tp

-- ---- instructions

-- LPD GA,[PP+IX+] at 8, with zeros at 0: PP and IX are 0
lpd-met : PairRan false (program_at 8) (bytes_from 8 (0x07 ∷ 0x8B ∷ [])) 0 0 0 3 1 0x22 3
unfolding step_of entry_number given_number first unless within_limits limit_of space_of index_of touchable_at lent_at byte_at beyond_in all_pass span sound sound_channel agree fields_agree same_fields same_flag split idle_channel channel_of with_last is_running block_of channel_number requested external ends_now transfer_rank rank_of second_wins ranked choice_of settled_step busy_in instruction_step channel_step chosen_step field_of bit_of decoded_at performed deed_of later_bytes later_from deed_from stages_from instruction_stages stages_number execute_number execute_of onward renewed used_up past_instruction places_of changed pair_of lookup decode_of table length_of data_length displacement_length offset_length effective grown base_of register_of by_rrr with_register indexed jumped_if landing displacement_at displaced_by signed_of lpd_deed jump_register_deed doubleword_at word_at both_with running_with
lpd-met = record { executes = executes-met 8 (0x07 ∷ 0x8B ∷ []) (lit≤ tt) (lit< tt); done = refl; rrr = lit< tt; two = lit< tt; mode = lit< tt; wide = lit< tt; base = lit< tt }

-- GA is 0 with tag 0, TP 10 and IX 4
pub lpd-leaves : register_values (ran_channel false (program_at 8) (bytes_from 8 (0x07 ∷ 0x8B ∷ [])) 0) ≡ 0 ∷ 0 ∷ 0 ∷ 0 ∷ 10 ∷ 4 ∷ 0 ∷ 0 ∷ []
unfolding byte_at beyond_in space_of index_of limit_of both_with running_with channel_of split
lpd-leaves = ((register-sheet false (program_at 8) (bytes_from 8 (0x07 ∷ 0x8B ∷ [])) 0).lpd 0 3 3 refl lpd-met).0.values

-- JZ GA at 0 with GA 10000h, of which the low 16 bits are 0; 5 bytes on
abbrev sixteen : State
sixteen = both_with (running_with (pointer 0x10000 false) (pointer 0 false) 0 0 0 4) idle_channel true

abbrev jz_code : Buffers
jz_code = buffers (0x08 ∷ 0x44 ∷ 5 ∷ []) []

jz-met : PairRan false sixteen jz_code 0 0 1 0 0 0x11 0
unfolding step_of entry_number given_number first unless within_limits limit_of space_of index_of touchable_at lent_at byte_at beyond_in all_pass span sound sound_channel agree fields_agree same_fields same_flag split idle_channel channel_of with_last is_running block_of channel_number requested external ends_now transfer_rank rank_of second_wins ranked choice_of settled_step busy_in instruction_step channel_step chosen_step field_of bit_of decoded_at performed deed_of later_bytes later_from deed_from stages_from instruction_stages stages_number execute_number execute_of onward renewed used_up past_instruction places_of changed pair_of lookup decode_of table length_of data_length displacement_length offset_length effective grown base_of register_of by_rrr with_register indexed jumped_if landing displacement_at displaced_by signed_of lpd_deed jump_register_deed doubleword_at word_at both_with running_with
jz-met = record {
  executes = record { turn = record { entered = refl; chosen = refl }; program = refl; there = record { lent = lent; read = read } };
  done = refl;
  rrr = lit< tt;
  two = lit< tt;
  mode = lit< tt;
  wide = lit< tt;
  base = lit< tt;
}
  where
    lent : (i : ℕ) → i < 2 → lent_at jz_code false (0 + i) ≡ true
    lent zero h = refl
    lent (suc zero) h = refl
    lent (suc (suc i)) h = absurd (omega arith)

    read : (i : ℕ) → i < 2 → byte_at jz_code false (0 + i) ≡ get_or (0x08 ∷ 0x44 ∷ []) i 0
    read zero h = refl
    read (suc zero) h = refl
    read (suc (suc i)) h = absurd (omega arith)

-- it jumps: TP is 3 + 5
pub jz-leaves : register_values (ran_channel false sixteen jz_code 0) ≡ 0x10000 ∷ 0 ∷ 0 ∷ 0 ∷ 8 ∷ 0 ∷ 0 ∷ 0 ∷ []
unfolding byte_at beyond_in space_of index_of limit_of both_with running_with channel_of split
jz-leaves = ((register-sheet false sixteen jz_code 0).jump true false 0 refl jz-met).0.values
