-- Two transfers that meet every premise of demand 3, in numbers: five bytes from system address 0, by bytes to I/O address 16 and by words to
-- system address 8; and a program that meets those of the cases with an instruction.
use Rattle.std.specs.Prelude.{Bool, true, false, List, [], ◌∷◌, ◌++◌, ℕ, replicate, None}
use Rattle.ground_rules.specs.declared.Pointer.{Pointer}
use Rattle.ground_rules.specs.Values.{pointer}
use Rattle.ground_rules.specs.Buffers.{Buffers, buffers}
use Rattle.ground_rules.specs.declared.Channel.{Channel}
use Rattle.ground_rules.specs.declared.Mode.TheVariants.{Running}
use Rattle.ground_rules.specs.declared.State.{State}
use Rattle.ground_rules.specs.Cc.{split}
use Rattle.ground_rules.specs.States.{board_with, idle_channel}

-- a running channel with these registers and the fields of its CC; the others are 0
unfoldable pub running_with : Pointer → Pointer → ℕ → ℕ → ℕ → ℕ → Channel
running_with ga gb tp bc cc psw =
    record {
      ga = ga;
      gb = gb;
      gc = pointer 0 false;
      tp = pointer tp false;
      pp = 0;
      bc = bc;
      ix = 0;
      cc = cc;
      mc = 0;
      psw = psw;
      mode = Running;
      armed = false;
      fields = split cc;
      held = None;
    }

-- both widths 8 (PSW 44h: TB and XF), from GA to GB, CC C010h: both sides move on, TBC 10 (offset 4)
abbrev pub narrow_at : ℕ → ℕ → ℕ → Channel
narrow_at ga gb bc = running_with (pointer ga false) (pointer gb true) 256 bc 49168 68

-- at its end TP is on by 4 and XF clear
abbrev pub narrow_end : Channel
narrow_end = running_with (pointer 5 false) (pointer 21 true) 260 0 49168 4

-- both widths 16 (PSW 47h), both sides even, from GB to GA, CC C418h: TBC 11 (offset 8)
abbrev pub wide_at : ℕ → ℕ → ℕ → Channel
wide_at ga gb bc = running_with (pointer ga false) (pointer gb false) 512 bc 50200 71

-- at its end TP is on by 8 and XF clear
abbrev pub wide_end : Channel
wide_end = running_with (pointer 13 false) (pointer 5 false) 520 0 50200 7

-- both memories, of which the six bytes from system address 8 and those from I/O address 16 are told
unfoldable pub memory_with : List ℕ → List ℕ → Buffers
memory_with sys io =
    buffers (1 ∷ 2 ∷ 3 ∷ 4 ∷ 5 ∷ 6 ∷ 0 ∷ 0 ∷ sys) (0 ∷ 0 ∷ 0 ∷ 0 ∷ 0 ∷ 0 ∷ 0 ∷ 0 ∷ 0 ∷ 0 ∷ 0 ∷ 0 ∷ 0 ∷ 0 ∷ 0 ∷ 0 ∷ io)

-- six such bytes with some of the source's arrived
abbrev pub six : ℕ → ℕ → ℕ → ℕ → ℕ → List ℕ
six a b c d e = a ∷ b ∷ c ∷ d ∷ e ∷ 9 ∷ []

-- at the start none has
abbrev pub memory_start : Buffers
memory_start = memory_with (six 0 0 0 0 0) (six 0 0 0 0 0)

-- channel 1 with the first transfer, channel 2 with the second
unfoldable pub both_with : Channel → Channel → Bool → State
both_with c d last = record { first = c; second = d; cp = 0; last = last; board = board_with true false false false }

-- channel 1 runs a program at an address of system memory with its registers at 0, channel 2 is idle
abbrev pub program_at : ℕ → State
program_at tp = both_with (running_with (pointer 0 false) (pointer 0 false) tp 0 0 4) idle_channel true

-- zeros up to an address, then these bytes
abbrev pub bytes_from : ℕ → List ℕ → Buffers
bytes_from address code = buffers (replicate address 0 ++ code) []
