-- Attentions worked out: the one of the example program, and a channel that is suspended and resumed.
-- Assumes nothing.
use Prim.Native.Nat.{ℕ, zero, suc, ◌+◌, ◌<◌}
use lib.ListN.{set}
use mathlib.Core.Bool.{true, false}
use mathlib.Core.List.{List, [], ◌∷◌}
use mathlib.Core.Path.{◌≡◌, refl}
use native.Mathlib.Omega.{arith}
use Rattle.ground_rules.specs.Cc.{split, same_flag, same_fields}
use Rattle.ground_rules.specs.Outcomes.{outcome, unless, first, settled, given_number}
use Rattle.ground_rules.specs.Stages.{stages_number}
use Rattle.ground_rules.specs.Psw.{with_psw}
use Rattle.ground_rules.specs.States.{idle_channel, fresh_state, channel_of, with_channel, sound_channel, sound, is_channel, is_second, block_of, busy_in, is_running, is_suspended, fields_agree, agree}
use Rattle.ground_rules.specs.declared.Mode.TheVariants.{Running}
use Rattle.ground_rules.specs.declared.State.{State}
use Rattle.ground_rules.specs.Buffers.{Buffers, buffers, space_of, limit_of, index_of, lent_at, touchable_at, beyond_in, byte_at, store_byte, within_limits}
use Rattle.ground_rules.specs.Places.{span, all_pass}
use Rattle.ground_rules.specs.Values.{word_at, doubleword_at, pointer, pointer_at, store_pointer}
use Rattle.ground_rules.specs.Bits.{field_of, bit_of, with_bit}
use Rattle.attention_rules.specs.Attention.{order_to, order_number, channel_attended, ordered_memory, given_to, attention_number, attention_of}
use Rattle.attention_rules.specs.Blocks.{ccw_of, parameter_block, order_of}
use Rattle.attention_rules.specs.Commands.{command_coded, is_known, mode_number, command_number, copied, obeyed, ordered}
use Rattle.attention_rules.specs.Effects.{started, suspended, resumed, commanded, channel_ordered, saved, marked, stored_memory}
use Rattle.ground_rules.specs.Updates.{with_control, stopped_psw}
use Rattle.attention_rules.specs.Pauses.{Pause}
use Rattle.attention_rules.specs.Touched.{read_by, stored_by, others, order_stages}

-- the example's system memory
abbrev pub input : List ℕ
input =
    3 ∷ 0 ∷ 16 ∷ 0 ∷ 0 ∷ 0 ∷ 0 ∷ 0 ∷ 0 ∷ 0 ∷ 0 ∷ 0 ∷ 0 ∷ 0 ∷ 0 ∷ 0 ∷ 32 ∷ 0 ∷ 0 ∷ 0 ∷ 0 ∷ 0 ∷ 0 ∷ 0 ∷ 0 ∷ 0 ∷ 0 ∷ 0 ∷ 0 ∷ 0 ∷ 0 ∷ 0
    ∷ 113 ∷ 48 ∷ 52 ∷ 18 ∷ 32 ∷ 72 ∷ []

-- its attention starts channel 1 at 20h of system space, with PB at 10h, TB 1 and BUSY FFh
pub example-starts : attention_of (fresh_state 0) (buffers input []) 1
    ≡ outcome 0 (with_channel (fresh_state 0) false (with_control idle_channel (pointer 32 false) 16 4 Running false)) (buffers (set input 1 255) [])
unfolding fresh_state idle_channel attention_of attention_number given_to given_number unless first is_channel within_limits limit_of sound sound_channel agree fields_agree same_fields same_flag split order_number stages_number order_stages order_to order_of block_of busy_in channel_of is_second ccw_of command_coded field_of parameter_block doubleword_at word_at byte_at beyond_in index_of space_of all_pass touchable_at lent_at span command_number is_known mode_number is_running is_suspended others read_by stored_by settled ordered_memory stored_memory saved store_pointer marked store_byte channel_attended channel_ordered commanded started suspended stopped_psw resumed pointer_at ordered copied obeyed with_psw with_bit bit_of with_control with_channel
example-starts = refl

-- a state whose channel 1 runs a transfer at 12345h of I/O space, with PB at 8
abbrev pub running : State
running = with_channel (fresh_state 0) false (with_control idle_channel (pointer 74565 true) 8 68 Running false)

-- memory with the order to suspend it
abbrev pub to_suspend : Buffers
to_suspend = buffers (6 ∷ 255 ∷ 0 ∷ 0 ∷ 0 ∷ 0 ∷ 0 ∷ 0 ∷ 0 ∷ 0 ∷ 0 ∷ 0 ∷ []) []

-- what suspend leaves of it, with the order to resume
abbrev pub to_resume : Buffers
to_resume = buffers (5 ∷ 0 ∷ 0 ∷ 0 ∷ 0 ∷ 0 ∷ 0 ∷ 0 ∷ 69 ∷ 35 ∷ 24 ∷ 68 ∷ []) []

-- so a pause as it is defined can happen
pub some-pause : Pause running to_suspend (attention_of running to_suspend 1).state to_resume 1
unfolding fresh_state idle_channel attention_of attention_number given_to given_number unless first is_channel within_limits limit_of sound sound_channel agree fields_agree same_fields same_flag split order_number stages_number order_stages order_to order_of block_of busy_in channel_of is_second ccw_of command_coded field_of parameter_block doubleword_at word_at byte_at beyond_in index_of space_of all_pass touchable_at lent_at span command_number is_known mode_number is_running is_suspended others read_by stored_by settled ordered_memory stored_memory saved store_pointer marked store_byte channel_attended channel_ordered commanded started suspended stopped_psw resumed pointer_at ordered copied obeyed with_psw with_bit bit_of with_control with_channel
some-pause = record {
  accepted = refl;
  suspends = refl;
  accepted' = refl;
  resumes = refl;
  registers = refl;
  bytes = bytes;
  busy = ((λ e i. omega arith), ((λ e i. omega arith), ((λ e i. omega arith), ((λ e i. omega arith), tt))));
}
  where
    bytes : (k : ℕ) → k < 4 → byte_at to_resume false (8 + k) ≡ byte_at (attention_of running to_suspend 1).memory false (8 + k)
    bytes zero h = refl
    bytes (suc zero) h = refl
    bytes (suc (suc zero)) h = refl
    bytes (suc (suc (suc zero))) h = refl
    bytes (suc (suc (suc (suc k)))) h = absurd (omega arith)
