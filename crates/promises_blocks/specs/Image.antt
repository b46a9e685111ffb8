-- Images in which the copying program runs: into any whole system memory the block, the parameter block and the program are put.
use Rattle.std.specs.Prelude.{Bool, false, List, [], ◌∷◌, ℕ, ◌+◌, ◌<◌, ◌≤◌, length}
use Rattle.ground_rules.specs.Choice.{pick}
use Rattle.ground_rules.specs.Buffers.{Buffers, space_of, store_byte}
use Rattle.ground_rules.specs.Conditions.{TooLong}
use Rattle.promises_blocks.specs.Program.{Job, Layout, pb_place, program_place, block_at, doubleword, program_of, most_of, JobReady}

-- bytes stored in system memory, one after the other
unfoldable pub put : Buffers → ℕ → List ℕ → Buffers
put m address [] = m
put m address (v ∷ vs) = put (store_byte m false address v) (address + 1) vs

-- all of system memory is lent
abbrev pub WholeSystem : Buffers → Type 0
WholeSystem m = 1048576 ≤ length (space_of m false)

-- CP 0, of either channel; the parameter block at 10h and the program at 20h
abbrev pub layout_of : Bool → Layout
layout_of second = record { cp = 0; second = second; pb_offset = 0x10; pb_segment = 0; program_offset = 0x20; program_segment = 0 }

-- n bytes from 40h or 41h to 10050h or 10051h, by any widths
abbrev pub copy_of : Bool → Bool → Bool → Bool → ℕ → Job
copy_of from_odd into_odd from_wide into_wide n =
    record {
      from_offset = pick from_odd 0x41 0x40;
      from_segment = 0;
      into_offset = pick into_odd 0x51 0x50;
      into_segment = 0x1000;
      from_wide = from_wide;
      into_wide = into_wide;
      count = n;
    }

-- a memory with CCW 03h and the pointers of the block and of the parameter block, and with the program
unfoldable pub image_in : Buffers → Job → Layout → Buffers
image_in m j l =
    put
    (put (put (put m (block_at l) (0x03 ∷ [])) (block_at l + 2) (doubleword l.pb_offset l.pb_segment)) (pb_place l).address (doubleword l.program_offset l.program_segment))
    (program_place l).address (program_of j)

-- the premises of the showpiece can be met: in any whole system memory that is put so, for either channel, from odd or even to odd or even, by all
-- widths, for every n that fits and with any lines
abbrev pub ReadyMet : Type 0
ReadyMet =
    (m : Buffers) → WholeSystem m → ¬ (TooLong m) → (second from_odd into_odd from_wide into_wide : Bool) (n lines : ℕ)
    → 1 ≤ n → n ≤ most_of (copy_of from_odd into_odd from_wide into_wide n) → lines < 16
    → JobReady (copy_of from_odd into_odd from_wide into_wide n) (layout_of second) (image_in m (copy_of from_odd into_odd from_wide into_wide n) (layout_of second)) lines 65535
