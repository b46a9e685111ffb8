-- The premises of the cases with an instruction are met: any bytes at any address of system memory, executed by channel 1.
-- Assumes nothing.
use Prim.Native.Nat.{ℕ, ◌+◌, ◌%◌, ◌<◌, ◌≤◌}
use borrow.Author.Tests.{lt-ltb, le-leb}
use lib.ListN.{length, get_or, replicate, length-append, length-replicate}
use lib.Seq.{get_or-append-add}
use mathlib.Core.Bool.{true, false}
use mathlib.Core.List.{List, ◌++◌}
use mathlib.Core.Path.{◌≡◌, refl}
use native.Mathlib.Omega.{arith}
use Rattle.ground_rules.specs.Cc.{split, same_flag, same_fields}
use Rattle.ground_rules.specs.Outcomes.{unless, first, given_number}
use Rattle.ground_rules.specs.States.{idle_channel, channel_of, sound_channel, sound, is_running, fields_agree, agree}
use Rattle.ground_rules.specs.Buffers.{space_of, limit_of, index_of, lent_at, beyond_in, byte_at, within_limits}
use Rattle.ground_rules.specs.Values.{pointer}
use Rattle.turn_rules.specs.Choosing.{requested, external, ends_now, transfer_rank, rank_of, second_wins, ranked, choice_of}
use Rattle.turn_rules.specs.Step.{entry_number}
use Rattle.ground_rules.specs.Bits.{bit_of, field_of}
use Rattle.promises.specs.Cases.{Stand, Executes}
use Rattle.promises.specs.Witness.{running_with, both_with, program_at, bytes_from}

module _ (a : ℕ) (code : List ℕ) (fits : a + length code ≤ 1048576) where
  -- memory ends with the bytes
  ends : length (replicate a 0 ++ code) ≡ a + length code
  ends = simp (length-append, length-replicate)

  -- an address of one of them is not reduced
  place : (i : ℕ) → i < length code → (a + i) % 1048576 ≡ a + i
  place i h = omega arith

  -- they stand there
  stand : Stand (bytes_from a code) (pointer a false) code
  unfolding lent_at byte_at beyond_in space_of index_of limit_of
  stand = record { lent = lent; read = read }
    where
      lent : (i : ℕ) → i < length code → lent_at (bytes_from a code) false (a + i) ≡ true
      lent i h = rw (place i h, ends) (lt-ltb (a + i) (a + length code) (omega arith))

      read : (i : ℕ) → i < length code → byte_at (bytes_from a code) false (a + i) ≡ get_or code i 0
      read i h = rw (place i h) (rw length-replicate at (get_or-append-add (replicate a 0) code i 0))

  -- no number refuses the call
  entered : a < 1048576 → entry_number (program_at a) (bytes_from a code) 0 ≡ 0
  unfolding entry_number given_number first unless within_limits limit_of sound sound_channel agree fields_agree same_fields same_flag split both_with running_with idle_channel bit_of field_of
  entered h = rw (ends, le-leb (a + length code) 1048576 fits, lt-ltb a 1048576 h)

  -- and it is channel 1's turn to execute them
  pub executes-met : a < 1048576 → Executes false (program_at a) (bytes_from a code) 0 code
  unfolding channel_of both_with running_with idle_channel bit_of choice_of ranked second_wins rank_of transfer_rank ends_now external requested is_running split
  executes-met h = record { turn = record { entered = entered h; chosen = refl }; program = refl; there = stand }
