-- Two transfers at once out of one system memory, each into the I/O memory of its own processor, step by step in turn.
use Rattle.std.specs.Prelude.{Bool, true, false, ◌≡◌, ℕ, zero, suc}
use Rattle.block_rules.specs.Premises.{into, Copy}
use Rattle.block_rules.specs.Stages.{Ended}
use Rattle.block_rules.specs.Totals.{total}
use Rattle.promises_blocks.specs.Joined.{RunsAlone}
use Rattle.promises_processors.specs.Rows.{ProcessorCalls}
use Rattle.promises_processors.specs.Situations.{Situation, state_for, channel_for, memory_for, after_step}

-- a step of processor 1 and then one of processor 2, so many times
unfoldable pub in_turn : ℕ → Situation → Situation
in_turn zero x = x
in_turn (suc k) x = after_step true 0 (after_step false 0 (in_turn k x))

-- of each processor a channel, the only one of it that runs, meets demand 3's premises with n bytes, and has k transfer steps to go into I/O space
pub record TwoTransfers (second : Bool → Bool) (n k : ℕ) (x : Situation) : Type 0 where
  pub copy : (which : Bool) → Copy n (channel_for which (second which) x) (memory_for which x)
  pub alone : (which : Bool) → RunsAlone (second which) (state_for which x) (memory_for which x) 0
  pub ports : (which : Bool) → (into (channel_for which (second which) x)).tag ≡ true
  pub steps : (which : Bool) → total (channel_for which (second which) x) n ≡ k

-- then k steps of each in turn are for each a row of demand 3 in which the other's are calls of the other, and both have ended
pub record BothEnd (second : Bool → Bool) (n k : ℕ) (x : Situation) : Type 1 where
  pub rows : (which : Bool) → ProcessorCalls which (second which) n x k (in_turn k x)
  pub ended : (which : Bool)
      → Ended n (channel_for which (second which) x) (memory_for which x) (channel_for which (second which) (in_turn k x)) (memory_for which (in_turn k x))
