-- Demand 3, the counts: at which of the channel's transfer steps the transfer ends, and how many bytes have moved before.
use Rattle.std.specs.Prelude.{Bool, not, ◌&&◌, ◌||◌, ℕ, ◌+◌, ◌-◌, ◌*◌, ◌/◌, min}
use Rattle.ground_rules.specs.Choice.{pick}
use Rattle.ground_rules.specs.declared.Channel.{Channel}
use Rattle.transfer_rules.specs.Sides.{source, destination, word_side}

-- both sides are 8 bits wide
unfoldable pub narrow : Channel → Bool
narrow c = not (source c).wide && not (destination c).wide

-- how many bytes move alone at the start: none where a side of 16 bits begins at an even address, else one
unfoldable pub alone : Channel → ℕ
alone c = pick (word_side (source c) || word_side (destination c)) 0 1

-- the steps of the whole transfer: n for two narrow sides, otherwise the lone byte, and half of the rest rounded up
unfoldable pub total : Channel → ℕ → ℕ
total c n = pick (narrow c) n (alone c + (n - alone c + 1) / 2)

-- the bytes that have moved after k of those steps: one at each, or two at each but the first p, and n at the most
unfoldable pub moved_after : Channel → ℕ → ℕ → ℕ
moved_after c n k = min (pick (narrow c) k (2 * k - alone c)) n
