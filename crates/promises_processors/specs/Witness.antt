-- Two processors in numbers: two programs in one system memory whose transfers end in two I/O memories, and one whose store harms the other's copy.
use Rattle.std.specs.Prelude.{true, false, List, [], ◌∷◌, ◌≡◌, ℕ}
use Rattle.ground_rules.specs.Values.{pointer}
use Rattle.ground_rules.specs.States.{idle_channel}
use Rattle.ground_rules.specs.declared.Channel.{Channel}
use Rattle.ground_rules.specs.declared.State.{State}
use Rattle.block_rules.specs.Stages.{Ended}
use Rattle.promises.specs.Witness.{running_with, both_with}
use Rattle.processor_rules.specs.Processors.{processors, memories}
use Rattle.promises_processors.specs.InTurn.{in_turn, TwoTransfers, BothEnd}
use Rattle.promises_processors.specs.Rows.{Unharmed}
use Rattle.promises_processors.specs.Situations.{Situation, channel_for, memory_for, after_step}

-- channel 1 of a processor, which alone runs
abbrev pub only_first : Channel → State
only_first c = both_with c idle_channel false

-- a channel that is to move five bytes from system address 0 to I/O address 0, by bytes, TBC 01
abbrev pub five_bytes : ℕ → ℕ → Channel
five_bytes tp psw = running_with (pointer 0 false) (pointer 0 true) tp 5 0xC008 psw

-- the five bytes, and two programs, XFER and WID 8,8 each: processor 1's at 8, processor 2's at 12
abbrev pub shared_bytes : List ℕ
shared_bytes = 1 ∷ 2 ∷ 3 ∷ 4 ∷ 5 ∷ 0 ∷ 0 ∷ 0 ∷ 0x60 ∷ 0x00 ∷ 0x80 ∷ 0x00 ∷ 0x60 ∷ 0x00 ∷ 0x80 ∷ 0x00 ∷ []

-- both at their XFER
unfoldable pub two_programs : Situation
two_programs =
    record {
      both = processors (only_first (five_bytes 8 0x04)) (only_first (five_bytes 12 0x04));
      memory = memories shared_bytes (0 ∷ 0 ∷ 0 ∷ 0 ∷ 0 ∷ []) (9 ∷ 9 ∷ 9 ∷ 9 ∷ 9 ∷ []);
    }

-- both with XF set, their programs done
unfoldable pub two_copies : Situation
two_copies =
    record {
      both = processors (only_first (five_bytes 12 0x44)) (only_first (five_bytes 16 0x44));
      memory = memories shared_bytes (0 ∷ 0 ∷ 0 ∷ 0 ∷ 0 ∷ []) (9 ∷ 9 ∷ 9 ∷ 9 ∷ 9 ∷ []);
    }

-- step by step in turn both programs come to their transfers, and both transfers to their ends, at the same address of two I/O spaces
pub record TwoAtOnce : Type 1 where
  pub programs : in_turn 2 two_programs ≡ two_copies
  pub premises : TwoTransfers (λ which. false) 5 5 two_copies
  pub ends : BothEnd (λ which. false) 5 5 two_copies
  pub moved : (in_turn 5 two_copies).memory ≡ memories shared_bytes (1 ∷ 2 ∷ 3 ∷ 4 ∷ 5 ∷ []) (1 ∷ 2 ∷ 3 ∷ 4 ∷ 5 ∷ [])

-- processor 1 as above; processor 2 moves the byte at its I/O address 0 to system address 2, a byte of the source
unfoldable pub harming : Situation
harming =
    record {
      both = processors (only_first (five_bytes 12 0x44)) (only_first (running_with (pointer 0 true) (pointer 2 false) 0x40 1 0xC008 0x44));
      memory = memories shared_bytes (0 ∷ 0 ∷ 0 ∷ 0 ∷ 0 ∷ []) (9 ∷ []);
    }

-- its store after the first step of processor 1 breaks the premise of the row, and the copy
pub record CopyHarmed : Type 0 where
  pub premise : ¬ (Unharmed false false 5 harming (after_step false 0 harming) (after_step true 0 (after_step false 0 harming)))
  pub moved : (in_turn 5 harming).memory.io_one ≡ 1 ∷ 2 ∷ 9 ∷ 4 ∷ 5 ∷ []
  pub copy : let x = in_turn 5 harming in ¬ (Ended 5 (channel_for false false harming) (memory_for false harming) (channel_for false false x) (memory_for false x))
