-- Empty card slots in numbers: an operand read out of one, one stored into one, code at the end of lent I/O memory, and a transfer into them.
-- Assumes nothing.
use mathlib.Core.Bool.{Bool, true, false}
use mathlib.Core.List.{[], ◌∷◌}
use mathlib.Core.Path.{◌≡◌, refl}
use Prim.Native.Nat.{ℕ, ◌+◌}
use Rattle.instruction_rules.specs.Lengths.{length_of, data_length, displacement_length, offset_length}
use Rattle.instruction_rules.specs.Reading.{lookup, decode_of}
use Rattle.instruction_rules.specs.Table.{table}
use Rattle.instruction_rules.specs.Pairs.{pair_of}
use Rattle.instruction_rules.specs.Execute.{decoded_at, performed, deed_of, later_bytes, later_from, deed_from, stages_from, instruction_stages, execute_number, execute_of}
use Rattle.instruction_rules.specs.MemoryForms.{read_first, worked_back, memory_work_deed, memory_register_deed}
use Rattle.instruction_rules.specs.RegisterForms.{register_written, register_immediate_deed, register_memory_deed}
use Rattle.instruction_rules.specs.Changes.{places_of, changed}
use Rattle.instruction_rules.specs.Marks.{used_up, past_instruction}
use Rattle.instruction_rules.specs.Operands.{indexed, effective, grown, operand_at, is_move, work_of}
use Rattle.ground_rules.specs.Cc.{split, same_flag, same_fields}
use Rattle.ground_rules.specs.Outcomes.{unless, first, given_number}
use Rattle.ground_rules.specs.Registers.{by_rrr, register_of, with_register, base_of}
use Rattle.ground_rules.specs.Stages.{stages_number}
use Rattle.ground_rules.specs.States.{idle_channel, channel_of, with_channel, with_last, sound, sound_channel, is_running, block_of, busy_in, channel_number, fields_agree, agree}
use Rattle.ground_rules.specs.Updates.{renewed, with_control}
use Rattle.ground_rules.specs.declared.Mode.TheVariants.{Running}
use Rattle.ground_rules.specs.declared.State.{State}
use Rattle.ground_rules.specs.Buffers.{Buffers, buffers, space_of, limit_of, index_of, lent_at, touchable_at, beyond_in, byte_at, store_byte, within_limits}
use Rattle.ground_rules.specs.Places.{span, all_pass}
use Rattle.ground_rules.specs.Values.{pointer, onward, word_at}
use Rattle.turn_rules.specs.Choosing.{requested, external, ends_now, transfer_rank, rank_of, second_wins, ranked, choice_of}
use Rattle.turn_rules.specs.Step.{stepped, settled_step, instruction_step, channel_step, chosen_step, entry_number, step_of}
use Rattle.ground_rules.specs.Bits.{field_of, bit_of}
use Rattle.ground_rules.specs.Signs.{extended}
use Rattle.turn_rules.specs.declared.Kind.TheVariants.{Transfer}
use Rattle.promises.specs.Witness.{running_with, both_with}
use Rattle.promises.proofs.CallWitness.{step_open}

-- channel 1 runs at 0 of a space, with GA at 5 of I/O space and BC 1234h
abbrev running : Bool → State
running tag = both_with (with_control (running_with (pointer 5 true) (pointer 0 false) 0 0x1234 0 4) (pointer 0 tag) 0 4 Running false) idle_channel true

-- MOVB BC,[GA] with I/O memory of length 0 is done: FFh, extended by its sign
abbrev Read : Type 0
Read =
    let o = step_of (running false) (buffers (0x60 ∷ 0x80 ∷ []) []) 0 in
    (o.number ≡ 0) × ((channel_of o.state false).bc ≡ 0xFFFF)

-- MOV [GA],BC with six bytes of it: the low byte is kept, the high one is over the edge and vanishes
abbrev Stored : Type 0
Stored =
    (step_of (running false) (buffers (0x61 ∷ 0x84 ∷ []) (1 ∷ 2 ∷ 3 ∷ 4 ∷ 5 ∷ 6 ∷ [])) 0).memory
    ≡ buffers (0x61 ∷ 0x84 ∷ []) (1 ∷ 2 ∷ 3 ∷ 4 ∷ 5 ∷ 0x34 ∷ [])

-- MOVBI GA in I/O space, whose data is an empty slot, makes it FFFFFh; where nothing or one byte is lent there is no instruction
abbrev Coded : Type 0
Coded =
    ((channel_of (step_of (running true) (buffers [] (0x08 ∷ 0x30 ∷ [])) 0).state false).ga ≡ pointer 0xFFFFF true)
    × ((step_of (running true) (buffers [] []) 0).number ≡ 3)
    × ((step_of (running true) (buffers [] (0x08 ∷ [])) 0).number ≡ 3)

-- a transfer of two bytes into empty slots, I/O memory being of length 0: each step moves on and counts as if the byte had been kept, the last ends it (TBC 10, offset 4), and memory stays
abbrev swept_away : ℕ → ℕ → ℕ → ℕ → Bool → State
swept_away by bc tp psw last = both_with (running_with (pointer by false) (pointer (5 + by) true) tp bc 0xC010 psw) idle_channel last

abbrev two_bytes : Buffers
two_bytes = buffers (1 ∷ 2 ∷ []) []

pub slots-written : (step_of (swept_away 0 2 256 0x44 true) two_bytes 0 ≡ stepped 0 (swept_away 1 1 256 0x44 false) two_bytes 1 Transfer)
    × (step_of (swept_away 1 1 256 0x44 false) two_bytes 0 ≡ stepped 0 (swept_away 2 0 260 0x04 false) two_bytes 1 Transfer)
unfolding step_open idle_channel
slots-written = (refl, refl)

pub slots-met : Read × Stored × Coded
unfolding step_of entry_number given_number first unless within_limits limit_of space_of index_of touchable_at lent_at byte_at beyond_in store_byte all_pass span sound sound_channel agree fields_agree same_fields same_flag split idle_channel channel_of with_channel with_last with_control is_running block_of channel_number requested external ends_now transfer_rank rank_of second_wins ranked choice_of settled_step busy_in instruction_step channel_step chosen_step field_of bit_of decoded_at performed deed_of later_bytes later_from deed_from stages_from instruction_stages stages_number execute_number execute_of onward renewed used_up past_instruction places_of changed pair_of lookup decode_of table length_of data_length displacement_length offset_length effective grown base_of register_of by_rrr with_register indexed operand_at extended is_move work_of register_written register_memory_deed register_immediate_deed memory_register_deed memory_work_deed worked_back read_first word_at both_with running_with
slots-met = ((refl, refl), refl, (refl, refl, refl))
