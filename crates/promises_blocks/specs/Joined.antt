-- Demand 3 joined to the panel's run: the run's done steps, of the only channel that runs, are calls in a row; a run that comes to a transfer goes
-- through it, and a HLT at its end ends the run.
use Rattle.std.specs.Prelude.{Bool, true, false, not, [], ◌∷◌, ◌≡◌, ℕ, ◌+◌, ◌<◌, length}
use Rattle.ground_rules.specs.Values.{onward}
use Rattle.ground_rules.specs.Buffers.{Buffers, space_of, lent_at, byte_at}
use Rattle.ground_rules.specs.Places.{Apart}
use Rattle.ground_rules.specs.declared.Pointer.{Pointer}
use Rattle.ground_rules.specs.declared.Channel.{Channel}
use Rattle.ground_rules.specs.declared.State.{State}
use Rattle.ground_rules.specs.Conditions.{Given}
use Rattle.ground_rules.specs.States.{channel_of, is_running, channel_number, block_of, busy_in}
use Rattle.transfer_rules.specs.Ends.{offset_of}
use Rattle.turn_rules.specs.Step.{entry_number}
use Rattle.run_rules.specs.Run.{Run}
use Rattle.promises.specs.Calls.{Calls}
use Rattle.promises.specs.Cases.{Stand}
use Rattle.block_rules.specs.Premises.{from, into, Copy}
use Rattle.promises.specs.Runs.{DoneSteps, start_checks, first_attention}
use Rattle.block_rules.specs.Stages.{Outside, Within}
use Rattle.block_rules.specs.Totals.{total}

-- a channel is alone: none of 12, 11, 10, 13 and 14 refuses a step, and the other channel does not run
pub record RunsAlone (second : Bool) (s : State) (m : Buffers) (lines : ℕ) : Type 0 where
  pub entered : entry_number s m lines ≡ 0
  pub idle : is_running (channel_of s (not second)).mode ≡ false

-- k done steps in a row from a state and a memory on, each of them the channel's transfer step: they are a row of such calls too, the channel is
-- still alone, CP is what it was, and no byte but the destination's has changed
pub record Through (second : Bool) (n : ℕ) (s₀ : State) (m₀ : Buffers) (lines k : ℕ) : Type 0 where
  pub state : State
  pub memory : Buffers
  pub done : DoneSteps lines s₀ m₀ k state memory
  pub calls : Calls second n s₀ m₀ k state memory
  pub alone : RunsAlone second state memory lines
  pub control : state.cp ≡ s₀.cp
  pub spares : Within (into (channel_of s₀ second)) n m₀ memory

-- where TP is once a transfer has ended by its count
abbrev pub end_of : Channel → Pointer
end_of c = onward c.tp (offset_of c.fields.countEnd)

-- a run comes to a transfer: it is started and its attention accepted, and k done steps lead to a state and a memory in which its channel is alone and
-- meets demand 3's premises. HLT stands where the transfer's end leads, and is no byte of the destination; its BUSY is lent; the limit lets the
-- transfer, HLT and one step more be tried
pub record Comes (m : Buffers) (cp : ℕ) (second : Bool) (lines limit n k : ℕ) (s₁ : State) (m₁ : Buffers) : Type 0 where
  pub started : Given (start_checks m cp (channel_number second) lines limit) 0
  pub accepted : (first_attention m cp (channel_number second)).number ≡ 0
  pub steps : DoneSteps lines (first_attention m cp (channel_number second)).state (first_attention m cp (channel_number second)).memory k s₁ m₁
  pub alone : RunsAlone second s₁ m₁ lines
  pub copy : Copy n (channel_of s₁ second) m₁
  pub halt : Stand m₁ (end_of (channel_of s₁ second)) (0x20 ∷ 0x48 ∷ [])
  pub halt_kept : (i : ℕ) → i < 2
      → Outside (into (channel_of s₁ second)) n (end_of (channel_of s₁ second)).tag ((end_of (channel_of s₁ second)).address + i)
  pub busy : lent_at m₁ false (busy_in (block_of s₁ second)) ≡ true
  pub enough : k + total (channel_of s₁ second) n + 1 < limit

-- the run: number 1, since no channel can run any more; k steps, the transfer's total, and HLT; each byte of the destination is the source's, but
-- where it is BUSY, which is 0; every other byte is as the k steps left it
pub record Halted (second : Bool) (n k : ℕ) (s₁ : State) (m₁ : Buffers) (r : Run) : Type 0 where
  pub number : r.number ≡ 1
  pub steps : r.steps ≡ k + total (channel_of s₁ second) n + 1
  pub copied : (i : ℕ) → i < n
      → Apart false (busy_in (block_of s₁ second)) (into (channel_of s₁ second)).tag ((into (channel_of s₁ second)).address + i)
      → byte_at r.memory (into (channel_of s₁ second)).tag ((into (channel_of s₁ second)).address + i)
      ≡ byte_at m₁ (from (channel_of s₁ second)).tag ((from (channel_of s₁ second)).address + i)
  pub busy : byte_at r.memory false (busy_in (block_of s₁ second)) ≡ 0
  pub others : (tag : Bool) (address : ℕ) → Outside (into (channel_of s₁ second)) n tag address → Apart false (busy_in (block_of s₁ second)) tag address
      → byte_at r.memory tag address ≡ byte_at m₁ tag address
  pub lengths : (tag : Bool) → length (space_of r.memory tag) ≡ length (space_of m₁ tag)
