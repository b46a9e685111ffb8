-- Reset and power-up, by fields and numbers: when a power-up is refused and what each leaves, the run that begins with them, why neither may come while a transfer runs, and a row of demand 3 that begins with a power-up.
use Rattle.std.specs.Prelude.{Bool, true, false, List, [], ◌∷◌, ◌++◌, ◌⊎◌, ◌↔◌, ◌≡◌, ℕ, ◌+◌, ◌*◌, ◌≤◌, eqb, length}
use Rattle.ground_rules.specs.Buffers.{Buffers, space_of, byte_at}
use Rattle.ground_rules.specs.Places.{Place, span, Apart}
use Rattle.ground_rules.specs.Conditions.{Check, check, Given, TooLong, Beyond}
use Rattle.ground_rules.specs.Outcomes.{outcome}
use Rattle.ground_rules.specs.States.{fresh_state, reset_state, channel_of, channel_number}
use Rattle.ground_rules.specs.declared.Channel.{Channel}
use Rattle.ground_rules.specs.declared.State.{State}
use Rattle.attention_rules.specs.Attention.{attention_of}
use Rattle.attention_rules.specs.Conditions.{NoChannel}
use Rattle.turn_rules.specs.Conditions.{LinesOver}
use Rattle.turn_rules.specs.Step.{step_of}
use Rattle.run_rules.specs.Run.{ran, attended_run, answer_of}
use Rattle.attention_rules.specs.Power.{power_up_of}
use Rattle.run_rules.specs.Board.{board_run_of}
use Rattle.promises.specs.Demand1.{Blank}
use Rattle.promises_blocks.specs.Image.{put, layout_of, copy_of, image_in}
use Rattle.promises_blocks.specs.Program.{Job, Layout, most_by, RunCopies, RowMade}
use Rattle.promises.specs.Runs.{LimitOver}
use Rattle.promises.specs.SheetWords.{bit, far_in}
use Rattle.block_rules.specs.Stages.{Going, Ended}

-- ---- what is left

-- a state in which nothing has happened yet: blank channels, channel 2 last, and its CP and the four marks of the board
pub record Unused (s : State) (cp : ℕ) (powered sysbus soc grant : Bool) : Type 0 where
  pub channels : (second : Bool) → Blank (channel_of s second)
  pub last : s.last ≡ true
  pub control : s.cp ≡ cp
  pub up : s.board.powered ≡ powered
  pub system : s.board.sysbus ≡ sysbus
  pub io : s.board.soc ≡ soc
  pub third : s.board.grant ≡ grant

-- bit k of a byte of system memory is 1
abbrev pub set_in : Buffers → ℕ → ℕ → Bool
set_in m a k = eqb (bit (byte_at m false a) k) 1

-- the configuration block is where the four bytes at FFFF8h point, SOC is its byte 0, and the control block is where its bytes 2 to 5 point
abbrev pub configuration_in : Buffers → ℕ
configuration_in m = far_in m false 0xFFFF8

abbrev pub control_in : Buffers → ℕ
control_in m = far_in m false (configuration_in m + 2)

-- ---- reset

-- 13 where no earlier check applies
abbrev pub thirteen_after : Type 0 → Buffers → List Check
thirteen_after argument m = check 12 argument ∷ check 11 (TooLong m) ∷ check 13 (Unit {0}) ∷ []

-- reset leaves CP 0 and nothing powered up; after it every attention and every step is 13, or 12 or 11, which come before it
pub record ResetLeaves : Type 0 where
  pub state : Unused reset_state 0 false false false false
  pub attention : (m : Buffers) (channel n : ℕ) → ((attention_of reset_state m channel).number ≡ n) ↔ Given (thirteen_after (NoChannel channel) m) n
  pub step : (m : Buffers) (lines n : ℕ) → ((step_of reset_state m lines).number ≡ n) ↔ Given (thirteen_after (LinesOver lines) m) n

-- ---- power-up

-- its eleven bytes: SYSBUS at FFFF6h, the pointer at FFFF8h, SOC, the pointer at the configuration block's 2, and BUSY of channel 1
abbrev pub eleven_in : Buffers → List Place
eleven_in m =
    span false 0xFFFF6 1
    ++ (span false 0xFFFF8 4
    ++ (span false (configuration_in m) 1
    ++ (span false (configuration_in m + 2) 4
    ++ span false (control_in m + 1) 1)))

-- a power-up of any state in any memories
pub record PowerLeaves (s : State) (m : Buffers) : Type 0 where
  -- 11, then 2, exactly where one of the eleven lies beyond lent memory; nothing else is asked
  pub numbers : (n : ℕ) → ((power_up_of s m).number ≡ n) ↔ Given (check 11 (TooLong m) ∷ check 2 (Beyond m (eleven_in m)) ∷ []) n
  pub bound : (power_up_of s m).number ≤ 11
  -- refused, it leaves the given state and every byte
  pub same_state : ¬ ((power_up_of s m).number ≡ 0) → (power_up_of s m).state ≡ s
  pub same_memory : ¬ ((power_up_of s m).number ≡ 0) → (power_up_of s m).memory ≡ m
  -- accepted, the fresh state of the CP found, powered up, with SYSBUS bit 0, SOC bit 0 and SOC bit 1
  pub state : (power_up_of s m).number ≡ 0
      → Unused (power_up_of s m).state (control_in m) true (set_in m 0xFFFF6 0) (set_in m (configuration_in m) 0) (set_in m (configuration_in m) 1)
  -- whatever state was given, one that is powered up already too
  pub again : (power_up_of s m).number ≡ 0 → (s' : State) → power_up_of s' m ≡ power_up_of s m
  -- BUSY of channel 1 is 0 then, every other byte is as it was, and so are the lengths
  pub busy : (power_up_of s m).number ≡ 0 → byte_at (power_up_of s m).memory false (control_in m + 1) ≡ 0
  pub others : (tag : Bool) (a : ℕ) → Apart false (control_in m + 1) tag a → byte_at (power_up_of s m).memory tag a ≡ byte_at m tag a
  pub lengths : (tag : Bool) → length (space_of (power_up_of s m).memory tag) ≡ length (space_of m tag)

-- ---- the run as the board starts it

-- 12 and 11 are tested before anything else, then power-up's bytes
abbrev pub board_checks : Buffers → ℕ → ℕ → ℕ → List Check
board_checks m channel lines limit =
    check 12 (NoChannel channel ⊎ (LinesOver lines ⊎ LimitOver limit))
    ∷ check 11 (TooLong m)
    ∷ check 2 (Beyond m (eleven_in m))
    ∷ []

-- a run with any channel, lines and limit, in any memories
pub record BoardRuns (m : Buffers) (channel lines limit : ℕ) : Type 0 where
  -- refused by one of them: no step, and no byte changed
  pub refused : (n : ℕ) → Given (board_checks m channel lines limit) n → ¬ (n ≡ 0) → board_run_of m channel lines limit ≡ ran n 0 m
  -- otherwise the attention to what power-up leaves, and steps, as after a fresh state
  pub attends : Given (board_checks m channel lines limit) 0
      → board_run_of m channel lines limit
      ≡ attended_run (attention_of (power_up_of reset_state m).state (power_up_of reset_state m).memory channel) lines limit
  -- no number is over 12, and no more steps are done than the limit
  pub bound : (board_run_of m channel lines limit).number ≤ 12
  pub steps_bound : (board_run_of m channel lines limit).steps ≤ limit
  -- the answer holds number and steps in sixteen bits each
  pub answer : answer_of (board_run_of m channel lines limit) ≡ (board_run_of m channel lines limit).number * 65536 + (board_run_of m channel lines limit).steps

-- ---- demand 3's row

-- whatever transfer was under way, in this state its channel neither goes on nor has ended, after any number of its steps
abbrev pub Breaks : State → Type 0
Breaks s =
    (second : Bool) (n k : ℕ) (c₀ : Channel) (m₀ m : Buffers)
    → ¬ (Going n c₀ m₀ k (channel_of s second) m) × ¬ (Ended n c₀ m₀ (channel_of s second) m)

-- so calls in a row (Calls) hold neither a reset nor a power-up of this processor: what demand 3 says of them would be false after either
pub record RowBroken : Type 0 where
  pub reset : Breaks reset_state
  pub power : (s : State) (m : Buffers) → (power_up_of s m).number ≡ 0 → Breaks (power_up_of s m).state

-- before it they may come: from any state a power-up leaves the fresh state of its CP, and the start attention that follows leads to a row
pub record RowPowered (j : Job) (l : Layout) (m : Buffers) (lines : ℕ) : Type 0 where
  pub powered : (s : State) → power_up_of s m ≡ outcome 0 (fresh_state l.cp) m
  pub row : RowMade j l m lines
  -- the run as the board starts it copies the block
  pub run : RunCopies j l m (board_run_of m (channel_number l.second) lines 65535)
  -- no I/O memory is lent: all of I/O space is empty slots
  pub slots : space_of m true ≡ []

-- a board's twelve bytes at the top of system memory: SOC 0 at FFFF0h, CP 0 at FFFF2h, SYSBUS 0, and the pointer to FFFF0h at FFFF8h
abbrev pub top_bytes : List ℕ
top_bytes = 0 ∷ 0 ∷ 0 ∷ 0 ∷ 0 ∷ 0 ∷ 0 ∷ 0 ∷ 0 ∷ 0 ∷ 0xFF ∷ 0xFF ∷ []

-- a memory with such a board, in which the copying program runs
unfoldable pub boarded_image : Buffers → Job → Layout → Buffers
boarded_image m j l = image_in (put m 0xFFFF0 top_bytes) j l

-- there is such a row: for either channel, from odd or even to odd or even, by all widths, and for every n that fits, in zeros
abbrev pub RowPoweredMet : Buffers → Type 0
RowPoweredMet zeros =
    (second from_odd into_odd from_wide into_wide : Bool) (n : ℕ) → 1 ≤ n → n ≤ most_by from_wide into_wide
    → RowPowered (copy_of from_odd into_odd from_wide into_wide n) (layout_of second) (boarded_image zeros (copy_of from_odd into_odd from_wide into_wide n) (layout_of second)) 0
