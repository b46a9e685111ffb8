-- What is promised of a sweep: its numbers, the plain steps that it stands for, demand 3's own end, what it leaves alone, and how a run goes on from it.
use Rattle.std.specs.Prelude.{Bool, true, false, not, ◌↔◌, ◌≡◌, ℕ, ◌+◌, ◌*◌, ◌<◌, ◌≤◌}
use Rattle.ground_rules.specs.Buffers.{Buffers, limit_of}
use Rattle.ground_rules.specs.Conditions.{Given, Ready}
use Rattle.ground_rules.specs.Outcomes.{given_number}
use Rattle.ground_rules.specs.States.{channel_of, channel_number, sound}
use Rattle.ground_rules.specs.declared.Mode.TheVariants.{Running}
use Rattle.ground_rules.specs.declared.State.{State}
use Rattle.block_rules.specs.Premises.{from, into, Copy}
use Rattle.block_rules.specs.Stages.{Within, Ended}
use Rattle.block_rules.specs.Totals.{narrow, alone, total}
use Rattle.turn_rules.specs.Choosing.{external}
use Rattle.sweep_rules.specs.Conditions.{sweep_checks}
use Rattle.sweep_rules.specs.Plainly.{plainly}
use Rattle.sweep_rules.specs.Ranges.{place_of}
use Rattle.sweep_rules.specs.Sweep.{Sweep, bytes_to_go, sweep_of}
use Rattle.run_rules.specs.Run.{steps_from}

-- what any sweep answers, whatever it is given; o is its outcome
pub record SweepAnswers (s : State) (m : Buffers) (channel lines : ℕ) (o : Sweep) : Type 0 where
  -- each number under its own condition: n is given exactly where n's check applies and no earlier one does; 0 where none does
  pub numbers : (n : ℕ) → (o.number ≡ n) ↔ Given (sweep_checks s m channel lines) n
  -- a refused call leaves the given state
  pub same_state : ¬ (o.number ≡ 0) → o.state ≡ s
  -- every byte of both memories
  pub same_memory : ¬ (o.number ≡ 0) → o.memory ≡ m
  -- and stands for no step and no byte
  pub no_steps : ¬ (o.number ≡ 0) → o.steps ≡ 0
  pub no_bytes : ¬ (o.number ≡ 0) → o.count ≡ 0
  -- no number is over 15
  pub bound : o.number ≤ 15

-- a sweep's conditions in demand 3's own words: its premises, byte by byte, of ranges that do not wrap, while the other channel does not run and no EXT
-- is up
pub record Demanded (s : State) (m : Buffers) (second : Bool) (lines : ℕ) : Type 0 where
  pub copy : Copy (bytes_to_go (channel_of s second)) (channel_of s second) m
  pub from_whole : place_of (from (channel_of s second)) + bytes_to_go (channel_of s second) ≤ limit_of (from (channel_of s second)).tag
  pub into_whole : place_of (into (channel_of s second)) + bytes_to_go (channel_of s second) ≤ limit_of (into (channel_of s second)).tag
  pub still : ¬ ((channel_of s (not second)).mode ≡ Running)
  pub quiet : (b : Bool) → external lines b ≡ false

-- what an accepted sweep of a channel does whose BC has 16 bits; o is its outcome
pub record SweepDoes (s : State) (m : Buffers) (second : Bool) (lines : ℕ) (o : Sweep) : Type 0 where
  -- it is the plain steps with these lines until XF is clear: number, state, both memories, how many steps, and how many bytes these read and stored, all
  -- in one; `left` is any number of steps that is enough
  pub plain : (left : ℕ) → o.steps ≤ left → o ≡ plainly left s m second lines
  -- which are at most 65,536
  pub most : o.steps ≤ 65536
  -- the steps are demand 3's total of the bytes to go, and each byte counts twice, read and stored
  pub steps : o.steps ≡ total (channel_of s second) (bytes_to_go (channel_of s second))
  pub count : o.count ≡ 2 * bytes_to_go (channel_of s second)
  -- BC 0 is 65,536 bytes: 65,536 steps by bytes, 32,768 by words from an even address on, 32,769 with a byte alone before them
  pub whole_count : (channel_of s second).bc ≡ 0 → o.count ≡ 131072
  pub whole_bytes : (channel_of s second).bc ≡ 0 → narrow (channel_of s second) ≡ true → o.steps ≡ 65536
  pub whole_words : (channel_of s second).bc ≡ 0 → narrow (channel_of s second) ≡ false → alone (channel_of s second) ≡ 0 → o.steps ≡ 32768
  pub whole_odd : (channel_of s second).bc ≡ 0 → narrow (channel_of s second) ≡ false → alone (channel_of s second) ≡ 1 → o.steps ≡ 32769
  -- the end is demand 3's: the destination holds the source's bytes in their order, the source is as it was, and the registers are those of the end
  pub ended : Ended (bytes_to_go (channel_of s second)) (channel_of s second) m (channel_of o.state second) o.memory
  -- steps of a run go on from what the sweep leaves, with as many fewer to go
  pub run : (left done : ℕ) → steps_from (o.steps + left) s m lines done ≡ steps_from left o.state o.memory lines (done + o.steps)

-- what an accepted sweep leaves alone, whatever BC is; o is its outcome
pub record SweepLeaves (s : State) (m : Buffers) (second : Bool) (o : Sweep) : Type 0 where
  -- a sound state that is powered up and agrees
  pub sound : sound o.state ≡ true
  pub ready : Ready o.state
  -- the other channel, CP and the board are as they were
  pub other : channel_of o.state (not second) ≡ channel_of s (not second)
  pub control : o.state.cp ≡ s.cp
  pub board : o.state.board ≡ s.board
  -- the channel is the last that stepped
  pub last : o.state.last ≡ second
  -- every byte outside the destination is as it was, and so are the lengths
  pub spares : Within (into (channel_of s second)) (bytes_to_go (channel_of s second)) m o.memory

-- what a sweep, or plain steps, leave that make the rest of a transfer: so many steps, and the end is that of the undisturbed run
pub record SweptRest (second : Bool) (n : ℕ) (s₀ : State) (m₀ : Buffers) (left : ℕ) (o : Sweep) : Type 0 where
  pub steps : o.steps ≡ left
  pub ended : Ended n (channel_of s₀ second) m₀ (channel_of o.state second) o.memory

-- the promise
pub record Sweeps : Type 0 where
  pub answers : (s : State) (m : Buffers) (channel lines : ℕ) → SweepAnswers s m channel lines (sweep_of s m channel lines)
  -- 15 is given, where no earlier number applies, exactly where one of demand 3's conditions fails, or a range wraps, the other channel runs or an EXT is up
  pub demanded : (s : State) (m : Buffers) (second : Bool) (lines : ℕ) → given_number s m ≡ 0 → lines < 16 → (channel_of s second).bc < 65536
      → ((sweep_of s m (channel_number second) lines).number ≡ 15) ↔ ¬ (Demanded s m second lines)
  pub does : (s : State) (m : Buffers) (second : Bool) (lines : ℕ) → (sweep_of s m (channel_number second) lines).number ≡ 0
      → (channel_of s second).bc < 65536 → SweepDoes s m second lines (sweep_of s m (channel_number second) lines)
  pub leaves : (s : State) (m : Buffers) (second : Bool) (lines : ℕ) → (sweep_of s m (channel_number second) lines).number ≡ 0
      → SweepLeaves s m second (sweep_of s m (channel_number second) lines)
