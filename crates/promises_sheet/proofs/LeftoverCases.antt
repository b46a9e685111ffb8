-- The leftover count in numbers: each case computed, and a sector of which three bytes came in before the pattern matched.
-- Assumes nothing.
use borrow.Author.Tests.{eqb-false}
use lib.Dec.{lit≤}
use mathlib.Core.Bool.{true, false}
use mathlib.Core.Path.{◌≡◌, refl}
use Prim.Native.Nat.{◌-◌}
use Rattle.ground_rules.specs.Registers.{with_register}
use Rattle.ground_rules.specs.States.{idle_channel, channel_of}
use Rattle.ground_rules.specs.declared.State.{State}
use Rattle.ground_rules.specs.Buffers.{Buffers}
use Rattle.turn_rules.specs.Step.{stepped, step_of}
use Rattle.turn_rules.specs.declared.Kind.TheVariants.{Transfer}
use Rattle.promises_sheet.specs.Leftover.{first_ends, Sector, scan_at, LeftoverCases, begin, transfer}
use Rattle.promises.specs.Witness.{memory_with, six, memory_start, both_with}
use Rattle.promises.proofs.CallWitness.{step_open}
use Rattle.promises_sheet.proofs.Leftover.{driver-sum}
use Rattle.promises.proofs.WitnessLaws.{transfer_open}

pub leftover-cases : LeftoverCases
unfolding transfer_open with_register
leftover-cases =
    record {
      count_ends = refl;
      match_larger = refl;
      uncounted = refl;
      wraps = refl;
      count_ends_on_none = refl;
      uncounted_on_none = refl;
      wraps_on_none = refl;
      one_left = refl;
      second_meets = refl;
      word_meets = refl;
      word_ends = refl;
    }

-- ---- a sector of six bytes, 1 to 6, searched for a 3 (MC FF03h) with TBC 11 and TMC 010

abbrev at_start : State
at_start = both_with (scan_at 0 256 6 0xC01A 0xFF03 0x46) idle_channel true

-- the first step moves 1 and 2
abbrev after_one : State
after_one = both_with (scan_at 2 256 4 0xC01A 0xFF03 0x46) idle_channel false

abbrev partly : Buffers
partly = memory_with (six 1 2 0 0 0) (six 0 0 0 0 0)

-- the second fetches 3 and 4, stores 3, and ends
abbrev after_two : State
after_two = both_with (scan_at 3 260 2 0xC01A 0xFF03 0x06) idle_channel false

pub first_step : step_of at_start memory_start 0 ≡ stepped 0 after_one partly 1 Transfer
unfolding step_open with_register idle_channel
first_step = refl

pub second-step : step_of after_one partly 0 ≡ stepped 0 after_two (memory_with (six 1 2 3 0 0) (six 0 0 0 0 0)) 1 Transfer
unfolding step_open with_register idle_channel
second-step = refl

-- there the first of two single stores meets TMC
pub second-cut : first_ends (channel_of after_one false) partly ≡ true
unfolding step_open with_register idle_channel
second-cut = refl

-- four bytes are fetched and three stored
pub sector-met : Sector false at_start 4 3 after_two
unfolding step_open with_register idle_channel
sector-met =
    let r : Sector false at_start 2 2 after_one = transfer begin memory_start 0 (record { turn = record { entered = refl; chosen = refl }; on = refl; done = refl }) in
    transfer r partly 0 (record { turn = record { entered = refl; chosen = refl }; on = refl; done = refl })

-- so says the driver's sum
pub sector-sum : 6 - (channel_of after_two false).bc ≡ 4
unfolding step_open with_register
sector-sum = (driver-sum {s₀ = at_start} {n = 6} (lit≤ tt) (lit≤ tt) refl (eqb-false 3 0 refl) sector-met).sum (lit≤ tt)
