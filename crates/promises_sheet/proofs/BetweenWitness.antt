-- The premises of what comes between the halves can be met, in numbers: two fetches, and a suspend and a resume between them that bring TP and PSW back.
-- Assumes nothing.
use Prim.Native.Nat.{ℕ}
use mathlib.Core.Bool.{true, false}
use mathlib.Core.List.{[], ◌∷◌}
use mathlib.Core.Logic.{inl, inr}
use mathlib.Core.Path.{◌≡◌, refl}
use Rattle.ground_rules.specs.Buffers.{Buffers, buffers, store_byte}
use Rattle.ground_rules.specs.Outcomes.{Outcome, settled}
use Rattle.ground_rules.specs.Places.{span}
use Rattle.ground_rules.specs.States.{idle_channel, channel_of, board_with, is_channel, is_second, is_suspended, block_of, busy_in}
use Rattle.ground_rules.specs.Updates.{with_control, stopped_psw}
use Rattle.ground_rules.specs.Values.{pointer, pointer_at, store_pointer}
use Rattle.ground_rules.specs.declared.Channel.{Channel}
use Rattle.ground_rules.specs.declared.State.{State}
use Rattle.attention_rules.specs.Attention.{order_to, order_number, channel_attended, ordered_memory, given_to, attention_number, attention_of}
use Rattle.attention_rules.specs.Blocks.{ccw_of, parameter_block, order_of}
use Rattle.attention_rules.specs.Commands.{command_coded, is_known, mode_number, command_number, copied, obeyed, ordered}
use Rattle.attention_rules.specs.Effects.{suspended, resumed, commanded, channel_ordered, saved, marked, stored_memory}
use Rattle.attention_rules.specs.Touched.{read_by, stored_by, others, order_stages}
use Rattle.turn_rules.specs.Step.{Step, step_of}
use Rattle.promises.specs.Witness.{running_with}
use Rattle.promises.proofs.CallWitness.{step_open}
use Rattle.promises_sheet.specs.SheetBetween.{begin, attends, HalvesApart}

-- channel 1 is to fetch from the device at I/O address 0 and to store at system address 16 (CC 8810h, PSW 45h: the destination alone is 16 bits
-- wide); its block lies at 8, its parameter block at 0
abbrev fetcher : Channel
fetcher = running_with (pointer 0 true) (pointer 16 false) 256 4 0x8810 0x45

-- beside an idle channel 2
abbrev fetcher_alone : State
fetcher_alone = record { first = fetcher; second = idle_channel; cp = 8; last = true; board = board_with true false false false }

-- the device has a 7, and the CCW at 8 is suspend
abbrev device_and_block : Buffers
device_and_block = buffers (0 ∷ 0 ∷ 0 ∷ 0 ∷ 0 ∷ 0 ∷ 0 ∷ 0 ∷ 0x06 ∷ 0 ∷ 0 ∷ 0 ∷ 0 ∷ 0 ∷ 0 ∷ 0 ∷ 0 ∷ 0 ∷ []) (7 ∷ [])

-- the first half
abbrev first_half : Step
first_half = step_of fetcher_alone device_and_block 1

-- the suspend
abbrev off_again : Outcome
off_again = attention_of first_half.state first_half.memory 1

-- the resume, whose CCW the host wrote
abbrev on_again : Outcome
on_again = attention_of off_again.state (store_byte off_again.memory false 8 0x05) 1

-- an attention with all that it is made of laid open, so that it computes
unfoldable attention_open : State → Buffers → ℕ → Outcome
unfolding attention_of attention_number given_to is_channel is_second settled order_number order_stages order_to order_of ccw_of command_coded parameter_block command_number is_known mode_number is_suspended block_of busy_in others read_by stored_by span ordered_memory stored_memory marked saved store_pointer pointer_at channel_attended channel_ordered commanded suspended resumed ordered copied obeyed with_control stopped_psw
attention_open s m channel = attention_of s m channel

-- both halves are done, with the 7 held over a suspend and a resume
pub apart-met : HalvesApart false fetcher_alone device_and_block 1 on_again.state on_again.memory 1
unfolding step_open attention_open running_with idle_channel
apart-met = record {
  halves = record {
    due = refl;
    free = refl;
    first = record { turn = record { entered = refl; chosen = refl }; on = refl; done = refl };
    byte = 7;
    holds = refl;
    next = record { turn = record { entered = refl; chosen = refl }; on = refl; done = refl };
  };
  between =
      attends (attends begin first_half.memory 6 (inr (inl refl)) (record { done = refl; code = refl }))
      (store_byte off_again.memory false 8 0x05) 5 (inr (inr refl)) (record { done = refl; code = refl });
  still = refl;
}

-- and TP and PSW are found as they were
pub apart-found : ((channel_of on_again.state false).tp ≡ fetcher.tp) × ((channel_of on_again.state false).psw ≡ fetcher.psw)
unfolding step_open attention_open running_with idle_channel
apart-found = (refl, refl)
