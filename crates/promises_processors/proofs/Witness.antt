-- The two programs and the harm done, computed.
-- Assumes nothing.
use Prim.Native.Nat.{ℕ}
use borrow.Author.Tests.{eqb-false}
use lib.Dec.{ltb, lit<, lit≤}
use mathlib.Core.Bool.{Bool, true, false}
use mathlib.Core.List.{[], ◌∷◌}
use mathlib.Core.Path.{◌≡◌, refl}
use Rattle.ground_rules.proofs.ChoiceLaws.{apart}
use Rattle.ground_rules.specs.Buffers.{buffers, lent_at}
use Rattle.ground_rules.proofs.SpanLaws.{span-at}
use Rattle.ground_rules.specs.Places.{span}
use Rattle.ground_rules.specs.Values.{onward}
use Rattle.ground_rules.specs.States.{idle_channel, is_channel, is_second, block_of, busy_in}
use Rattle.ground_rules.specs.Updates.{renewed}
use Rattle.instruction_rules.specs.Pairs.{pair_of}
use Rattle.instruction_rules.specs.Lengths.{data_length, displacement_length, length_of}
use Rattle.instruction_rules.specs.Reading.{lookup, decode_of}
use Rattle.instruction_rules.specs.Table.{table}
use Rattle.instruction_rules.specs.Changes.{places_of, changed}
use Rattle.instruction_rules.specs.Marks.{used_up, past_instruction, mark_set}
use Rattle.instruction_rules.specs.Control.{with_status, xfer_deed, wid_deed}
use Rattle.instruction_rules.specs.Execute.{decoded_at, performed, deed_of, later_bytes, deed_from, later_from, stages_from, instruction_stages, execute_number, execute_of}
use Rattle.turn_rules.specs.Step.{instruction_step}
use Rattle.transfer_rules.specs.Sides.{source, destination}
use Rattle.block_rules.specs.Premises.{into, Copy}
use Rattle.block_rules.specs.Totals.{narrow, total}
use Rattle.promises.proofs.CallWitness.{step_open}
use Rattle.promises_blocks.specs.Joined.{RunsAlone}
use Rattle.processor_rules.specs.Calls.{step_on}
use Rattle.processor_rules.specs.Lifting.{called_on, lifted}
use Rattle.processor_rules.specs.Processors.{processor_of, with_processor, io_of, buffers_of, with_buffers}
use Rattle.promises_processors.specs.InTurn.{in_turn, TwoTransfers}
use Rattle.promises_processors.specs.Situations.{Situation, state_for, channel_for, memory_for}
use Rattle.promises_processors.specs.Witness.{five_bytes, shared_bytes, two_programs, two_copies, TwoAtOnce, harming, CopyHarmed}
use Rattle.promises_processors.proofs.InTurnLaws.{both_end}

-- steps in turn with all that they are made of laid open, so that they compute
unfoldable turns_open : ℕ → Situation → Situation
unfolding in_turn step_on lifted called_on is_channel is_second processor_of with_processor io_of buffers_of with_buffers step_open two_programs two_copies harming idle_channel
turns_open k x = in_turn k x

-- an instruction so too
unfoldable programs_open : ℕ → Situation → Situation
unfolding turns_open instruction_step block_of busy_in execute_of execute_number instruction_stages stages_from decoded_at decode_of lookup table pair_of deed_from later_from later_bytes deed_of performed xfer_deed wid_deed mark_set with_status past_instruction renewed used_up length_of data_length displacement_length places_of changed onward span
programs_open k x = in_turn k x

programs-run : in_turn 2 two_programs ≡ two_copies
unfolding programs_open
programs-run = refl

-- every premise of such a transfer
copy-five : (tp a b c d e : ℕ) → ltb tp 1048576 ≡ true → Copy 5 (five_bytes tp 0x44) (buffers shared_bytes (a ∷ b ∷ c ∷ d ∷ e ∷ []))
unfolding turns_open span source destination
copy-five tp a b c d e fits =
    record {
      plain = record {
        runs = refl;
        transfers = refl;
        leaves = refl;
        enters = refl;
        unsynchronised = refl;
        untranslated = refl;
        counts = λ z. eqb-false 1 0 refl z;
        unmatched = refl;
        unended = refl;
        ongoing = refl;
        sound = rw fits;
        agree = refl;
      };
      some = lit≤ tt;
      most = lit≤ tt;
      count = refl;
      from_lent = λ i h. span-at (lent_at (buffers shared_bytes (a ∷ b ∷ c ∷ d ∷ e ∷ []))) false 0 5 i refl h;
      into_lent = λ i h. span-at (lent_at (buffers shared_bytes (a ∷ b ∷ c ∷ d ∷ e ∷ []))) true 0 5 i refl h;
      apart = λ i j h h' z x. apart z;
    }

-- of both
premises-met : TwoTransfers (λ which. false) 5 5 two_copies
unfolding turns_open total narrow
premises-met = record { copy = copy; alone = alone; ports = ports; steps = steps }
  where
    copy : (b : Bool) → Copy 5 (channel_for b false two_copies) (memory_for b two_copies)
    copy true = copy-five 16 9 9 9 9 9 refl
    copy false = copy-five 12 0 0 0 0 0 refl

    alone : (b : Bool) → RunsAlone false (state_for b two_copies) (memory_for b two_copies) 0
    alone true = record { entered = refl; idle = refl }
    alone false = record { entered = refl; idle = refl }

    ports : (b : Bool) → (into (channel_for b false two_copies)).tag ≡ true
    ports true = refl
    ports false = refl

    steps : (b : Bool) → total (channel_for b false two_copies) 5 ≡ 5
    steps true = refl
    steps false = refl

pub two_at_once : TwoAtOnce
unfolding turns_open
two_at_once = record { programs = programs-run; premises = premises-met; ends = both_end premises-met; moved = refl }

pub copy-harmed : CopyHarmed
unfolding programs_open
copy-harmed =
    record {
      premise = λ u. eqb-false 9 3 refl (u.from_left.bytes 2 (lit< tt));
      moved = refl;
      copy = λ e. eqb-false 9 3 refl (e.copied 2 (lit< tt));
    }
