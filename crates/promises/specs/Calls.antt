-- Demand 3 on the whole machine: calls in a row, each getting the state that the one before handed back.
use Rattle.std.specs.Prelude.{Bool, true, ◌≡◌, ℕ, suc, ◌<◌}
use Rattle.ground_rules.specs.Buffers.{Buffers}
use Rattle.ground_rules.specs.declared.State.{State}
use Rattle.ground_rules.specs.Psw.{transferring}
use Rattle.ground_rules.specs.States.{channel_of, channel_number}
use Rattle.attention_rules.specs.Attention.{attention_of}
use Rattle.turn_rules.specs.declared.Choice.TheVariants.{Steps}
use Rattle.turn_rules.specs.declared.Kind.TheVariants.{Transfer}
use Rattle.turn_rules.specs.Choosing.{choice_of}
use Rattle.turn_rules.specs.Step.{entry_number, step_of}
use Rattle.block_rules.specs.Premises.{into}
use Rattle.block_rules.specs.Stages.{Within, Going, Ended}
use Rattle.block_rules.specs.Rows.{Untouched}

-- a step call is a channel's turn: none of 12, 11, 10, 13 and 14 refuses it, and the choice falls on that channel
pub record HasTurn (second : Bool) (s : State) (m : Buffers) (lines : ℕ) : Type 0 where
  pub entered : entry_number s m lines ≡ 0
  pub chosen : choice_of s lines ≡ Steps second

-- what comes of a state and a memory by calls in a row, k of which are transfer steps of the channel: the start; such a step; a step call that is
-- not its turn, so of the other channel or refused; an attention that is not to it; the host, who may write and lend other buffers. All but the first
-- two leave both ranges alone
pub data Calls (second : Bool) (n : ℕ) (s₀ : State) (m₀ : Buffers) : ℕ → State → Buffers → Type 0 where
  begin : Calls second n s₀ m₀ 0 s₀ m₀
  transfer : {k : ℕ} {s : State} {m : Buffers} → Calls second n s₀ m₀ k s m → (lines : ℕ) → HasTurn second s m lines
      → transferring (channel_of s second).psw ≡ true → Calls second n s₀ m₀ (suc k) (step_of s m lines).state (step_of s m lines).memory
  step : {k : ℕ} {s : State} {m : Buffers} → Calls second n s₀ m₀ k s m → (lines : ℕ) → (HasTurn second s m lines → ⊥)
      → Untouched (channel_of s₀ second) n m (step_of s m lines).memory → Calls second n s₀ m₀ k (step_of s m lines).state (step_of s m lines).memory
  attention : {k : ℕ} {s : State} {m : Buffers} → Calls second n s₀ m₀ k s m → (channel : ℕ) → (channel ≡ channel_number second → ⊥)
      → Untouched (channel_of s₀ second) n m (attention_of s m channel).memory → Calls second n s₀ m₀ k (attention_of s m channel).state (attention_of s m channel).memory
  host : {k : ℕ} {s : State} {m : Buffers} {m' : Buffers} → Calls second n s₀ m₀ k s m → Untouched (channel_of s₀ second) n m m' → Calls second n s₀ m₀ k s m'

-- a step call that is a transfer step of the channel: it is done, and changes no byte but the destination's
pub record Moves (second : Bool) (n : ℕ) (s₀ s : State) (m : Buffers) (lines : ℕ) : Type 0 where
  pub done : (step_of s m lines).number ≡ 0
  pub channel : (step_of s m lines).channel ≡ channel_number second
  pub kind : (step_of s m lines).kind ≡ Transfer
  pub spares : Within (into (channel_of s₀ second)) n m (step_of s m lines).memory

-- the transfer ends at the k-th of the channel's transfer steps, and not before; before, each step call that is its turn is such a step, and done
pub record EndsAtCall (second : Bool) (n : ℕ) (s₀ : State) (m₀ : Buffers) (k : ℕ) : Type 0 where
  pub before : {j : ℕ} {s : State} {m : Buffers} → Calls second n s₀ m₀ j s m → j < k → Going n (channel_of s₀ second) m₀ j (channel_of s second) m
  pub turns : {j : ℕ} {s : State} {m : Buffers} → Calls second n s₀ m₀ j s m → j < k → (lines : ℕ) → HasTurn second s m lines → Moves second n s₀ s m lines
  pub then : {s : State} {m : Buffers} → Calls second n s₀ m₀ k s m → Ended n (channel_of s₀ second) m₀ (channel_of s second) m
