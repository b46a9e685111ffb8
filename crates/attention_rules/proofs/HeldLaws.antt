-- What becomes of a held byte, by the number of the command, and a held byte over a suspend and a resume, computed.
-- Assumes nothing.
use Rattle.std.proofs.Common.{Option, ℕ, None, Some}
use Prim.Native.Nat.{ℕ, zero, suc, ◌/◌, ◌%◌, ◌^◌, ◌<◌}
use lib.Dec.{lit<}
use lib.ListN.{get_or}
use mathlib.Core.Bool.{true, false}
use mathlib.Core.List.{[], ◌∷◌}
use mathlib.Core.Path.{◌≡◌, refl, ap, ◌∙◌}
use native.Mathlib.Nat.{mod-lt, div-one}
use native.Mathlib.Omega.{arith}
use Rattle.ground_rules.proofs.ChannelLaws.{put_same}
use Rattle.ground_rules.specs.Bits.{field_of, bit_of, with_bit}
use Rattle.ground_rules.specs.Buffers.{Buffers, space_of, limit_of, index_of, lent_at, touchable_at, beyond_in, byte_at, store_byte, within_limits}
use Rattle.ground_rules.specs.Cc.{split, same_flag, same_fields}
use Rattle.ground_rules.specs.Outcomes.{Outcome, unless, first, settled, given_number}
use Rattle.ground_rules.specs.Places.{span, all_pass}
use Rattle.ground_rules.specs.Psw.{with_psw}
use Rattle.ground_rules.specs.Stages.{stages_number}
use Rattle.ground_rules.specs.States.{idle_channel, fresh_state, channel_of, with_channel, sound_channel, sound, is_channel, is_second, block_of, busy_in, is_running, is_suspended, fields_agree, agree}
use Rattle.ground_rules.specs.Updates.{with_control, holding, stopped_psw, halted}
use Rattle.ground_rules.specs.Values.{word_at, doubleword_at, pointer, pointer_at, store_pointer}
use Rattle.ground_rules.specs.declared.Channel.{Channel}
use Rattle.ground_rules.specs.declared.Mode.TheVariants.{Running}
use Rattle.ground_rules.specs.declared.State.{State}
use Rattle.attention_rules.specs.Attention.{order_to, order_number, channel_attended, ordered_memory, given_to, attention_number, attention_of}
use Rattle.attention_rules.specs.Blocks.{ccw_of, parameter_block, order_of}
use Rattle.attention_rules.specs.Commands.{command_coded, is_known, mode_number, command_number, copied, obeyed, ordered}
use Rattle.attention_rules.specs.Effects.{started, suspended, resumed, commanded, channel_ordered, saved, marked, stored_memory}
use Rattle.attention_rules.specs.Touched.{read_by, stored_by, others, order_stages}
use Rattle.attention_rules.proofs.Cases.{to_suspend, to_resume}
use Rattle.attention_rules.proofs.Outcomes.{accepted-order}

-- what is held after a command, by bits 2-0 of CCW: both starts and halt drop it, 000, resume and suspend keep it; 010 and 100 are accepted by none
abbrev pub held_after : Option ℕ → ℕ → Option ℕ
held_after held code = get_or (held ∷ None ∷ held ∷ None ∷ held ∷ held ∷ held ∷ None ∷ []) code held

by_code : (code : ℕ) → code < 8 → (m : Buffers) (pb : ℕ) (c : Channel) → (commanded (command_coded code) m pb c).held ≡ held_after c.held code
unfolding commanded command_coded started suspended resumed halted with_control
by_code zero h m pb c = refl
by_code (suc zero) h m pb c = refl
by_code (suc (suc zero)) h m pb c = refl
by_code (suc (suc (suc zero))) h m pb c = refl
by_code (suc (suc (suc (suc zero)))) h m pb c = refl
by_code (suc (suc (suc (suc (suc zero))))) h m pb c = refl
by_code (suc (suc (suc (suc (suc (suc zero)))))) h m pb c = refl
by_code (suc (suc (suc (suc (suc (suc (suc zero))))))) h m pb c = refl
by_code (suc (suc (suc (suc (suc (suc (suc (suc k)))))))) h m pb c = absurd (omega arith)

-- an accepted attention leaves just that in its channel
pub held_by : (s : State) (m : Buffers) (channel : ℕ) → (attention_of s m channel).number ≡ 0
    → (channel_of (attention_of s m channel).state (is_second channel)).held
    ≡ held_after (channel_of s (is_second channel)).held (byte_at m false (block_of s (is_second channel)) % 8)
unfolding channel_attended channel_ordered order_to order_of ccw_of field_of with_control
held_by s m channel accepted =
    let b = is_second channel in
    ap (λ (o : Outcome). (channel_of o.state b).held) (accepted-order s m channel accepted)
    ∙ ap (λ (c : Channel). c.held) (put_same s b (channel_attended s m b))
    ∙ by_code (byte_at m false (block_of s b) / 2 ^ 0 % 8) (mod-lt (byte_at m false (block_of s b) / 2 ^ 0) (lit< tt)) m (order_to s m b).pb (channel_of s b)
    ∙ ap (λ (n : ℕ). held_after (channel_of s b).held (n % 8)) (div-one (byte_at m false (block_of s b)))

-- the channel of the pause that is worked out, with a byte held: it is held still once it is suspended, and once it is resumed
abbrev holding_seven : State
holding_seven = with_channel (fresh_state 0) false (holding (with_control idle_channel (pointer 74565 true) 8 68 Running false) (Some 7))

pub pause-holds : let off = attention_of holding_seven to_suspend 1 in
    ((channel_of off.state false).held ≡ Some 7) × (channel_of (attention_of off.state to_resume 1).state false ≡ channel_of holding_seven false)
unfolding fresh_state idle_channel attention_of attention_number given_to given_number unless first is_channel within_limits limit_of sound sound_channel agree fields_agree same_fields same_flag split order_number stages_number order_stages order_to order_of block_of busy_in channel_of is_second ccw_of command_coded field_of parameter_block doubleword_at word_at byte_at beyond_in index_of space_of all_pass touchable_at lent_at span command_number is_known mode_number is_running is_suspended others read_by stored_by settled ordered_memory stored_memory saved store_pointer marked store_byte channel_attended channel_ordered commanded started suspended stopped_psw resumed pointer_at ordered copied obeyed with_psw with_bit bit_of with_control with_channel
pause-holds = (refl, refl)
