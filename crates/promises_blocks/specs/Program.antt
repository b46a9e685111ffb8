-- The showpiece: a channel program that copies a block, from the panel's call to its answer.
use Rattle.std.specs.Prelude.{Bool, true, false, ◌||◌, List, [], ◌∷◌, ◌↔◌, ◌≡◌, ℕ, ◌+◌, ◌%◌, ◌<◌, ◌≤◌, length}
use Rattle.ground_rules.specs.Bytes.{low_byte, high_byte}
use Rattle.ground_rules.specs.Choice.{pick}
use Rattle.ground_rules.specs.Sums.{address_of}
use Rattle.ground_rules.specs.Buffers.{Buffers, buffers, space_of, lent_at, byte_at}
use Rattle.ground_rules.specs.Places.{Apart}
use Rattle.ground_rules.specs.Values.{pointer}
use Rattle.ground_rules.specs.declared.Pointer.{Pointer}
use Rattle.ground_rules.specs.Conditions.{TooLong}
use Rattle.ground_rules.specs.States.{fresh_state, channel_of, block_of, channel_number}
use Rattle.ground_rules.specs.declared.State.{State}
use Rattle.run_rules.specs.Run.{Run, run_of}
use Rattle.promises.specs.Cases.{Stand}
use Rattle.promises_blocks.specs.Joined.{Through}
use Rattle.promises_blocks.specs.Met.{copying}
use Rattle.block_rules.specs.Premises.{Lent, ShareNone, Copy}
use Rattle.promises.specs.Runs.{DoneSteps, first_attention}
use Rattle.block_rules.specs.Stages.{Outside}
use Rattle.block_rules.specs.Totals.{total}
use Rattle.promises.specs.Unique.{CallMeets}

-- ---- what is copied, and where things stand

-- a copy: where its bytes come from and where they go, each as the offset and the segment of a system address; whether a side is 16 bits wide; how
-- many bytes
pub record Job : Type 0 where
  pub from_offset : ℕ
  pub from_segment : ℕ
  pub into_offset : ℕ
  pub into_segment : ℕ
  pub from_wide : Bool
  pub into_wide : Bool
  pub count : ℕ

-- the panel's places: CP, the channel, and offset and segment of the parameter block and of the program
pub record Layout : Type 0 where
  pub cp : ℕ
  pub second : Bool
  pub pb_offset : ℕ
  pub pb_segment : ℕ
  pub program_offset : ℕ
  pub program_segment : ℕ

-- the system address that two words give; of a larger number the low sixteen bits count
abbrev pub system_place : ℕ → ℕ → Pointer
system_place offset segment = pointer (address_of (offset % 65536) (segment % 65536)) false

-- the first byte that is copied, and where it goes
abbrev pub from_place : Job → Pointer
from_place j = system_place j.from_offset j.from_segment

abbrev pub into_place : Job → Pointer
into_place j = system_place j.into_offset j.into_segment

-- the parameter block, and the program
abbrev pub pb_place : Layout → Pointer
pb_place l = system_place l.pb_offset l.pb_segment

abbrev pub program_place : Layout → Pointer
program_place l = system_place l.program_offset l.program_segment

-- the channel's block, at CP or CP + 8, and its BUSY, in numbers of its own, so that the run's `busy_in` is held to them
abbrev pub block_at : Layout → ℕ
block_at l = block_of (fresh_state l.cp) l.second

abbrev pub busy_at : Layout → ℕ
busy_at l = block_at l + 1

-- ---- the program

-- a doubleword pointer in memory: offset, then segment, low bytes first
abbrev pub doubleword : ℕ → ℕ → List ℕ
doubleword offset segment = low_byte offset ∷ high_byte offset ∷ low_byte segment ∷ high_byte segment ∷ []

-- WID's first byte, 1SD00000
abbrev pub wid_of : Bool → Bool → ℕ
wid_of source destination = 0x80 + pick source 0x40 0 + pick destination 0x20 0

-- its 26 bytes. CC C008h: both sides move on, unsynchronised, source is GA, TBC 01 (ends by count, offset 0)
unfoldable pub program_of : Job → List ℕ
program_of j =
    -- LPDI GA, where the bytes come from
    0x11 ∷ 0x08 ∷ low_byte j.from_offset ∷ high_byte j.from_offset ∷ low_byte j.from_segment ∷ high_byte j.from_segment
    -- LPDI GB, where they go
    ∷ 0x31 ∷ 0x08 ∷ low_byte j.into_offset ∷ high_byte j.into_offset ∷ low_byte j.into_segment ∷ high_byte j.into_segment
    -- MOVI BC, how many; 0 stands for 65,536
    ∷ 0x71 ∷ 0x30 ∷ low_byte j.count ∷ high_byte j.count
    -- MOVI CC, C008h
    ∷ 0xD1 ∷ 0x30 ∷ 0x08 ∷ 0xC0
    -- XFER
    ∷ 0x60 ∷ 0x00
    -- WID, the widths; the transfer begins after it
    ∷ wid_of j.from_wide j.into_wide ∷ 0x00
    -- HLT
    ∷ 0x20 ∷ 0x48 ∷ []

-- where HLT is among them
abbrev pub halt_at : ℕ
halt_at = 24

-- how many transfer steps the copy takes: demand 3's total for these sides
abbrev pub steps_of : Job → ℕ
steps_of j = total (copying (from_place j).address (into_place j).address j.from_wide j.into_wide j.count) j.count

-- ---- what is asked

-- an image in which the program does its work, whatever else it holds
pub record JobReady (j : Job) (l : Layout) (m : Buffers) (lines limit : ℕ) : Type 0 where
  -- none of 12, 11 and 10 refuses the call
  pub cp_fits : l.cp < 1048576
  pub lines_fit : lines < 16
  pub limit_fits : limit < 65536
  pub buffers_fit : ¬ (TooLong m)
  -- some bytes, as many as a count can say, and a limit that the copy, the seven instructions and the call that ends the run fit
  pub some : 1 ≤ j.count
  pub most : j.count ≤ 65536
  pub enough : steps_of j + 8 ≤ limit
  -- the block: CCW 03h (start in system space), BUSY, and where PB is
  pub command : Stand m (pointer (block_at l) false) (0x03 ∷ [])
  pub busy : lent_at m false (busy_at l) ≡ true
  pub parameters : Stand m (pointer (block_at l + 2) false) (doubleword l.pb_offset l.pb_segment)
  -- PB says where the program is, and there it is
  pub task : Stand m (pb_place l) (doubleword l.program_offset l.program_segment)
  pub program : Stand m (program_place l) (program_of j)
  -- both ranges are lent and share no byte
  pub from_lent : Lent m (from_place j) j.count
  pub into_lent : Lent m (into_place j) j.count
  pub apart : ShareNone (from_place j) (into_place j) j.count
  -- BUSY is no byte of the source, of the destination or of the program
  pub busy_from : Outside (from_place j) j.count false (busy_at l)
  pub busy_into : Outside (into_place j) j.count false (busy_at l)
  pub busy_program : Outside (program_place l) (length (program_of j)) false (busy_at l)
  -- the destination has no byte of HLT; the instructions before it are done when the transfer begins
  pub halt_kept : (i : ℕ) → i < 2 → Outside (into_place j) j.count false ((program_place l).address + (halt_at + i))

-- ---- what comes of it

-- the memories after the run, m being those before it
pub record BlockMoved (j : Job) (l : Layout) (m m' : Buffers) : Type 0 where
  -- each byte of the destination is the source's, as that was before the run
  pub copied : (i : ℕ) → i < j.count → byte_at m' false ((into_place j).address + i) ≡ byte_at m false ((from_place j).address + i)
  -- BUSY is 0
  pub busy : byte_at m' false (busy_at l) ≡ 0
  -- every other byte is as it was, in both memories, and so are their lengths
  pub others : (tag : Bool) (address : ℕ) → Outside (into_place j) j.count tag address → Apart false (busy_at l) tag address
      → byte_at m' tag address ≡ byte_at m tag address
  pub lengths : (tag : Bool) → length (space_of m' tag) ≡ length (space_of m tag)

-- the run: number 1, since no channel can run after HLT; six instructions, the transfer's steps, and HLT
pub record RunCopies (j : Job) (l : Layout) (m : Buffers) (r : Run) : Type 0 where
  pub number : r.number ≡ 1
  pub steps : r.steps ≡ steps_of j + 7
  pub memory : BlockMoved j l m r.memory

-- the run of an image, with any lines and limit
abbrev pub run_in : Layout → Buffers → ℕ → ℕ → Run
run_in l m lines limit = run_of m l.cp (channel_number l.second) lines limit

-- the showpiece: every such image is run so
abbrev pub Showpiece : Type 0
Showpiece = (j : Job) (l : Layout) (m : Buffers) (lines limit : ℕ) → JobReady j l m lines limit → RunCopies j l m (run_in l m lines limit)

-- and `iop89_run`, called from C with such an image, answers so and leaves the buffers so
pub record CallCopies (j : Job) (l : Layout) (m : Buffers) (answer : ℕ) (sys io : List ℕ) : Type 0 where
  pub answered : answer ≡ 65536 + (steps_of j + 7)
  pub memory : BlockMoved j l m (buffers sys io)

abbrev pub ShowpieceCall : Type 0
ShowpieceCall =
    (j : Job) (l : Layout) (m : Buffers) (lines limit answer : ℕ) (sys io : List ℕ) → JobReady j l m lines limit
    → CallMeets m l.cp (channel_number l.second) lines limit answer sys io → CallCopies j l m answer sys io

-- such a run has a row of demand 3 in it that nobody set up: fresh, the attention and six instructions, XFER among them, come to a channel that
-- meets demand 3's premises, and its transfer steps follow, all of them in a row
pub record RowMade (j : Job) (l : Layout) (m : Buffers) (lines : ℕ) : Type 0 where
  pub state : State
  pub memory : Buffers
  pub accepted : (first_attention m l.cp (channel_number l.second)).number ≡ 0
  pub instructions : DoneSteps lines (first_attention m l.cp (channel_number l.second)).state (first_attention m l.cp (channel_number l.second)).memory 6 state memory
  pub copy : Copy j.count (channel_of state l.second) memory
  pub row : Through l.second j.count state memory lines (steps_of j)

-- the most bytes that a run can copy so, by its widths: 65,527 with both 8, else 65,536
abbrev pub most_by : Bool → Bool → ℕ
most_by from_wide into_wide = pick (from_wide || into_wide) 65536 65527

abbrev pub most_of : Job → ℕ
most_of j = most_by j.from_wide j.into_wide

-- no more and no less fit the largest limit
abbrev pub FitsExactly : Type 0
FitsExactly = (j : Job) → 1 ≤ j.count → j.count ≤ 65536 → (steps_of j + 8 ≤ 65535) ↔ (j.count ≤ most_of j)
