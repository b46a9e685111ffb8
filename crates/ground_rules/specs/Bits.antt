-- The bits of a number, counted from 0 for the lowest: a field of some bits, a single bit, and the number with one bit changed.
use Rattle.std.specs.Prelude.{Bool, ℕ, ◌+◌, ◌*◌, ◌/◌, ◌%◌, ◌^◌, eqb}
use Rattle.ground_rules.specs.Choice.{pick}

-- the `width` bits of x from bit `at` upwards, as a number
unfoldable pub field_of : ℕ → ℕ → ℕ → ℕ
field_of x at width = x / 2 ^ at % 2 ^ width

-- bit `at` of x is 1
unfoldable pub bit_of : ℕ → ℕ → Bool
bit_of x at = eqb (x / 2 ^ at % 2) 1

-- x with bit `at` made 1 or 0: the bits above it, the bit, the bits below it
unfoldable pub with_bit : ℕ → ℕ → Bool → ℕ
with_bit x at on = x / 2 ^ (at + 1) * 2 ^ (at + 1) + pick on (2 ^ at) 0 + x % 2 ^ at
