-- Two programs in numbers that take a pointer to memory and back, so that what `PointersKept` asks of steps can be met.
-- Assumes nothing.
use Rattle.std.proofs.Common.{None}
use Prim.Native.Nat.{ℕ}
use mathlib.Core.Bool.{Bool, true, false}
use mathlib.Core.List.{List, [], ◌∷◌, ◌++◌}
use mathlib.Core.Path.{refl}
use lib.ListN.{replicate}
use Rattle.instruction_rules.specs.Lengths.{length_of, data_length, displacement_length, offset_length}
use Rattle.instruction_rules.specs.Pairs.{pair_of}
use Rattle.instruction_rules.specs.Reading.{lookup, decode_of}
use Rattle.instruction_rules.specs.Table.{table}
use Rattle.instruction_rules.specs.declared.Memory.{Memory}
use Rattle.instruction_rules.specs.declared.Shape.{Shape}
use Rattle.instruction_rules.specs.declared.Shape.TheVariants.{MovpStore, Call}
use Rattle.instruction_rules.specs.JumpForms.{call_deed}
use Rattle.instruction_rules.specs.MemoryForms.{movp_store_deed}
use Rattle.instruction_rules.specs.RegisterForms.{movp_load_deed}
use Rattle.instruction_rules.specs.Execute.{decoded_at, performed, deed_of, later_bytes, later_from, deed_from, stages_from, instruction_stages, execute_number, execute_of}
use Rattle.ground_rules.specs.Cc.{split, same_flag, same_fields}
use Rattle.ground_rules.specs.Outcomes.{unless, first, given_number}
use Rattle.ground_rules.specs.Stages.{stages_number}
use Rattle.ground_rules.specs.Registers.{by_rrr, register_of, tag_of, with_register, base_of}
use Rattle.ground_rules.specs.States.{fresh_state, idle_channel, channel_of, with_channel, with_last, sound_channel, sound, is_running, block_of, busy_in, channel_number, fields_agree, agree}
use Rattle.ground_rules.specs.declared.Channel.{Channel}
use Rattle.ground_rules.specs.declared.Mode.TheVariants.{Running}
use Rattle.ground_rules.proofs.SpanLaws.{span-at}
use Rattle.ground_rules.specs.Buffers.{buffers, space_of, limit_of, index_of, lent_at, touchable_at, beyond_in, byte_at, store_byte, within_limits}
use Rattle.ground_rules.specs.Places.{span, all_pass}
use Rattle.ground_rules.specs.Values.{pointer, pointer_at, onward}
use Rattle.instruction_rules.specs.Changes.{places_of, changed, stored_value}
use Rattle.instruction_rules.specs.Marks.{used_up, past_instruction}
use Rattle.instruction_rules.specs.Operands.{indexed, effective, grown, displacement_at, landing, jumped_if}
use Rattle.ground_rules.specs.Updates.{renewed}
use Rattle.turn_rules.specs.Choosing.{requested, external, ends_now, transfer_rank, rank_of, second_wins, ranked, choice_of}
use Rattle.turn_rules.specs.Step.{settled_step, instruction_step, channel_step, chosen_step, entry_number, step_of}
use Rattle.ground_rules.specs.Bits.{field_of, bit_of}
use Rattle.ground_rules.specs.Signs.{signed_of, displaced_by}
use Rattle.promises.specs.Pointers.{Holds, StepCall, left_by, Executes, operand_of, LoadsFrom}
use Rattle.promises.proofs.PointerLaws.{movp-back, call_back}

-- channel 1 runs the program at 0, with GA 10h in system space and GB 12345h in I/O space
abbrev running : Channel
running =
    record {
      ga = pointer 0x10 false;
      gb = pointer 0x12345 true;
      gc = pointer 0 false;
      tp = pointer 0 false;
      pp = 0;
      bc = 0;
      ix = 0;
      cc = 0;
      mc = 0;
      psw = 4;
      mode = Running;
      armed = false;
      fields = split 0;
      held = None;
    }

-- the operand [GA], of W 1 or 0
abbrev at_ga : Bool → Memory
at_ga wide = record { mm = 0; aa = 0; wide = wide }

-- the first step of a program of a few bytes, and the next
abbrev first_step : List ℕ → StepCall
first_step code = record { state = with_channel (fresh_state 0) false running; memory = buffers (code ++ replicate 16 0) []; lines = 0; second = false }

abbrev next_step : List ℕ → StepCall
next_step code = record { state = (left_by (first_step code)).state; memory = (left_by (first_step code)).memory; lines = 0; second = false }

-- a program that stores a pointer by an instruction of some shape at [GA], and then loads GC from [GA]
pub record GoesAndComes (code : List ℕ) (shape : Shape) (o : Memory) : Type 0 where
  pub goes : Executes (first_step code) shape
  pub comes : LoadsFrom (first_step code) (operand_of (first_step code) shape o) (next_step code) 2 (at_ga true)

-- MOVP [GA],GB; MOVP GC,[GA]
abbrev movps : List ℕ
movps = 0x21 ∷ 0x98 ∷ 0x41 ∷ 0x8C ∷ []

-- CALL [GA],0; MOVP GC,[GA]
abbrev calls : List ℕ
calls = 0x88 ∷ 0x9C ∷ 0 ∷ 0x41 ∷ 0x8C ∷ []

both_go : GoesAndComes movps (MovpStore 1 (at_ga true)) (at_ga true) × GoesAndComes calls (Call (at_ga false) false) (at_ga false)
unfolding step_of entry_number given_number first unless within_limits limit_of space_of index_of touchable_at lent_at byte_at beyond_in store_byte all_pass span sound sound_channel agree fields_agree same_fields same_flag split fresh_state idle_channel channel_of with_channel with_last is_running block_of channel_number requested external ends_now transfer_rank rank_of second_wins ranked choice_of settled_step busy_in instruction_step channel_step chosen_step field_of bit_of decoded_at performed deed_of later_bytes later_from deed_from stages_from instruction_stages stages_number execute_number execute_of onward renewed used_up past_instruction places_of changed stored_value pair_of lookup decode_of table length_of data_length displacement_length offset_length movp_store_deed movp_load_deed call_deed effective grown base_of register_of tag_of by_rrr with_register pointer_at indexed jumped_if landing displacement_at displaced_by signed_of
both_go = (
  record {
    goes = record { done = refl; chosen = refl; program = refl; reads = refl };
    comes = record { loads = record { done = refl; chosen = refl; program = refl; reads = refl }; place = refl; lent = λ i h. span-at (lent_at (first_step movps).memory) running.ga.tag running.ga.address 3 i refl h; bytes = λ i h. refl };
  },
  record {
    goes = record { done = refl; chosen = refl; program = refl; reads = refl };
    comes = record { loads = record { done = refl; chosen = refl; program = refl; reads = refl }; place = refl; lent = λ i h. span-at (lent_at (first_step calls).memory) running.ga.tag running.ga.address 3 i refl h; bytes = λ i h. refl };
  },
)

-- after the first GC is 12345h, in I/O space
pub movp-met : Holds (channel_of (left_by (next_step movps)).state false) 2 0x12345 true
unfolding register_of tag_of by_rrr past_instruction renewed fresh_state with_channel channel_of
movp-met = movp-back both_go.0.goes both_go.0.comes

-- after the second it is 3, the address past the CALL, in system space
pub call_met : Holds (channel_of (left_by (next_step calls)).state false) 2 3 false
unfolding past_instruction renewed onward fresh_state with_channel channel_of length_of offset_length data_length displacement_length
call_met = call_back both_go.1.goes both_go.1.comes
