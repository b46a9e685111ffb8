-- Sweeps in numbers, computed.
-- Assumes nothing.
use Prim.Native.Nat.{ℕ}
use mathlib.Core.Bool.{Bool}
use mathlib.Core.Path.{refl}
use Rattle.ground_rules.specs.Buffers.{Buffers, within_limits}
use Rattle.ground_rules.specs.Places.{span}
use Rattle.ground_rules.specs.Outcomes.{first, unless, counted, given_number}
use Rattle.ground_rules.specs.States.{idle_channel, channel_of, with_channel, with_last, sound_channel, sound, fields_agree, agree, is_running, is_channel, is_second}
use Rattle.ground_rules.specs.declared.State.{State}
use Rattle.block_rules.specs.Stages.{finished}
use Rattle.block_rules.specs.Totals.{narrow, alone, total}
use Rattle.transfer_rules.specs.Steps.{touched_by_transfer}
use Rattle.turn_rules.specs.Choosing.{external}
use Rattle.turn_rules.specs.Touched.{touched_in, touched_by_step, step_count}
use Rattle.sweep_rules.specs.Copies.{copied_on}
use Rattle.sweep_rules.specs.Plainly.{plainly}
use Rattle.sweep_rules.specs.Ranges.{range_lent, ranges_apart}
use Rattle.sweep_rules.specs.Sweep.{Sweep, bytes_to_go, plain_fields, plain_transfer, ranges_fit, none_external, sweepable, sweep_number, done_sweep, sweep_of}
use Rattle.promises.proofs.CallWitness.{step_open}
use Rattle.promises_blocks.specs.SweepCases.{mid_transfer, state_with, SweptCases, SweepConditions}

-- a sweep and the plain steps with all that they are made of laid open, so that they compute
unfoldable sweep_open : State → Buffers → ℕ → ℕ → Sweep
unfolding step_open sweep_of sweep_number first unless given_number within_limits sound sound_channel agree fields_agree is_channel is_second sweepable none_external external is_running plain_transfer plain_fields ranges_fit range_lent ranges_apart bytes_to_go done_sweep copied_on finished total narrow alone channel_of with_channel with_last idle_channel mid_transfer state_with
sweep_open s m channel lines = sweep_of s m channel lines

unfoldable plain_open : ℕ → State → Buffers → Bool → ℕ → Sweep
unfolding sweep_open plainly step_count counted touched_by_step touched_in touched_by_transfer span
plain_open left s m second lines = plainly left s m second lines

pub swept-cases : SweptCases
unfolding sweep_open plain_open
swept-cases = record { odd = refl; odd_plain = refl; across = refl; across_plain = refl; one = refl; one_plain = refl }

pub sweep-conditions : SweepConditions
unfolding sweep_open
sweep-conditions =
    record {
      done = refl;
      first_external = refl;
      second_external = refl;
      lines_over = refl;
      other_runs = refl;
      suspended = refl;
      no_transfer = refl;
      source_stays = refl;
      destination_stays = refl;
      by_source = refl;
      by_destination = refl;
      by_neither = refl;
      translated = refl;
      uncounted = refl;
      matched = refl;
      unmatched_on = refl;
      unmatched_off = refl;
      ends_outside = refl;
      single = refl;
      from_end = refl;
      from_past = refl;
      into_past = refl;
      touching = refl;
      sharing = refl;
      touching_below = refl;
      sharing_below = refl;
      past_pointer = refl;
      bit_nine = refl;
      two_spaces = refl;
      third = refl;
      unpowered = refl;
      disagree = refl;
    }
