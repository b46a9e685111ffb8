-- Demand 3, a row of transfer steps of one channel, with whatever else may happen between them.
use Rattle.std.specs.Prelude.{◌≡◌, ℕ, zero, suc, ◌+◌, ◌<◌}
use Rattle.ground_rules.specs.declared.Pointer.{Pointer}
use Rattle.ground_rules.specs.Buffers.{Buffers, byte_at}
use Rattle.ground_rules.specs.declared.Channel.{Channel}
use Rattle.transfer_rules.specs.Steps.{Transfer, transferred, transfer_of}
use Rattle.block_rules.specs.Premises.{from, into, Lent}
use Rattle.block_rules.specs.Stages.{Going, Ended}

-- the bytes of a range of n are in m' as they are in m, and lent; buffers may be other ones everywhere else, and of other lengths
pub record Left (p : Pointer) (n : ℕ) (m m' : Buffers) : Type 0 where
  pub bytes : (i : ℕ) → i < n → byte_at m' p.tag (p.address + i) ≡ byte_at m p.tag (p.address + i)
  pub lent : Lent m' p n

-- both ranges are left alone: nothing else writes into them
pub record Untouched (c₀ : Channel) (n : ℕ) (m m' : Buffers) : Type 0 where
  pub from_left : Left (from c₀) n m m'
  pub into_left : Left (into c₀) n m m'

-- what comes of a channel c₀ and a memory m₀ in a row with k transfer steps of the channel: the start; one more of those steps; anything that leaves
-- the channel and both ranges alone
pub data Row (n : ℕ) (c₀ : Channel) (m₀ : Buffers) : ℕ → Channel → Buffers → Type 0 where
  start : Row n c₀ m₀ 0 c₀ m₀
  steps : {k : ℕ} {c : Channel} {m : Buffers} → Row n c₀ m₀ k c m → Row n c₀ m₀ (suc k) (transfer_of c m).channel (transfer_of c m).memory
  other : {k : ℕ} {c : Channel} {m : Buffers} {m' : Buffers} → Row n c₀ m₀ k c m → Untouched c₀ n m m' → Row n c₀ m₀ k c m'

-- k transfer steps of a channel with nothing between them
unfoldable pub after : ℕ → Channel → Buffers → Transfer
after zero c m = transferred 0 c m
after (suc k) c m = let t = after k c m in transfer_of t.channel t.memory

-- the transfer ends at the k-th of the channel's transfer steps, and not before
pub record EndsAt (n : ℕ) (c₀ : Channel) (m₀ : Buffers) (k : ℕ) : Type 0 where
  pub before : {j : ℕ} {c : Channel} {m : Buffers} → Row n c₀ m₀ j c m → j < k → Going n c₀ m₀ j c m
  pub then : {c : Channel} {m : Buffers} → Row n c₀ m₀ k c m → Ended n c₀ m₀ c m
