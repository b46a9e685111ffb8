-- The sheet of what comes between the halves of a pair of transfer steps (§7.14): suspends, resumes and other calls, what the second half finds after
-- them, and how the pair then ends.
use Rattle.std.specs.Prelude.{Bool, true, ◌⊎◌, ◌≡◌, ℕ}
use Rattle.ground_rules.specs.Buffers.{Buffers}
use Rattle.ground_rules.specs.States.{channel_of, channel_number}
use Rattle.ground_rules.specs.declared.Channel.{Channel}
use Rattle.ground_rules.specs.declared.State.{State}
use Rattle.attention_rules.specs.Attention.{attention_of}
use Rattle.turn_rules.specs.Step.{step_of}
use Rattle.promises_sheet.specs.SheetOperands.{ran_channel}
use Rattle.promises_sheet.specs.SheetAttention.{Attends}
use Rattle.promises_sheet.specs.SheetTransfer.{meets_in, half_due}
use Rattle.promises_sheet.specs.SheetHalves.{PairOver, PairLeft, HalvesOf}

-- what comes of a state by calls that are 000, suspend or resume to a channel, attentions to the other, steps that are not its own, and refused ones,
-- any number of them, each with any memory: the commands by the low three bits of the CCW
pub data Pausing (second : Bool) (s₀ : State) : State → Type 0 where
  begin : Pausing second s₀ s₀
  attends : {s : State} → Pausing second s₀ s → (m : Buffers) (code : ℕ) → (code ≡ 0) ⊎ ((code ≡ 6) ⊎ (code ≡ 5)) → Attends second s m code
      → Pausing second s₀ (attention_of s m (channel_number second)).state
  refused : {s : State} → Pausing second s₀ s → (m : Buffers) → ((attention_of s m (channel_number second)).number ≡ 0 → ⊥)
      → Pausing second s₀ (attention_of s m (channel_number second)).state
  other : {s : State} → Pausing second s₀ s → (m : Buffers) (channel : ℕ) → (channel ≡ channel_number second → ⊥)
      → Pausing second s₀ (attention_of s m channel).state
  step : {s : State} → Pausing second s₀ s → (m : Buffers) (lines : ℕ) → ((step_of s m lines).channel ≡ channel_number second → ⊥)
      → Pausing second s₀ (step_of s m lines).state

-- a channel as it was left and as it is found after them: all but TP, PSW and mode is the same
pub record FoundAgain (left found : Channel) : Type 0 where
  -- the pointers of both sides and of the table, with their tags
  pub ga : found.ga ≡ left.ga
  pub gb : found.gb ≡ left.gb
  pub gc : found.gc ≡ left.gc
  -- the count
  pub bc : found.bc ≡ left.bc
  -- IX
  pub ix : found.ix ≡ left.ix
  -- CC and its fields: which side is the source, which move on, and all the ends
  pub cc : found.cc ≡ left.cc
  pub fields : found.fields ≡ left.fields
  -- what a match looks for
  pub mc : found.mc ≡ left.mc
  -- where the parameter block lies
  pub pp : found.pp ≡ left.pp
  -- the mark that XFER set
  pub mark : found.armed ≡ left.armed
  -- the byte that is held
  pub held : found.held ≡ left.held

-- two halves with such calls between them
pub record HalvesApart (second : Bool) (s : State) (m : Buffers) (lines : ℕ) (s' : State) (m' : Buffers) (lines' : ℕ) : Type 0 where
  pub halves : HalvesOf second s m lines s' m' lines'
  pub between : Pausing second (step_of s m lines).state s'
  -- a pair is due still, with the widths that a resume may have brought
  pub still : half_due (channel_of s' second) m' ≡ true

-- the channel after both, a byte being held between them
pub record ApartLeft (second : Bool) (s : State) (m : Buffers) (s' : State) (m' : Buffers) (lines' byte : ℕ) : Type 0 where
  -- the sides that move on have gained 2 from where the first half found them, BC has lost 2, TMC looked at the held byte, and nothing is held; TP,
  -- PSW and mode come from what the second half found
  pub over : PairOver (channel_of s second) m 2 (meets_in (channel_of s second) m byte)
      (channel_of s' second).tp (channel_of s' second).psw (channel_of s' second).mode (ran_channel second s' m' lines')
  -- where it found TP and PSW as they were, as after a suspend and a resume that bring them back, every register is as if nothing had come between
  pub same : (channel_of s' second).tp ≡ (channel_of s second).tp → (channel_of s' second).psw ≡ (channel_of s second).psw
      → PairLeft (channel_of s second) m 2 (meets_in (channel_of s second) m byte) (ran_channel second s' m' lines')

pub record BetweenSheet : Type 0 where
  -- any number of such calls, each in any memory, leave all of this
  pub found : (second : Bool) (s₀ s : State) → Pausing second s₀ s → FoundAgain (channel_of s₀ second) (channel_of s second)
  -- so the pair ends as the whole move does
  pub ends : (second : Bool) (s : State) (m : Buffers) (lines : ℕ) (s' : State) (m' : Buffers) (lines' : ℕ)
      → (p : HalvesApart second s m lines s' m' lines') → ApartLeft second s m s' m' lines' p.halves.byte
