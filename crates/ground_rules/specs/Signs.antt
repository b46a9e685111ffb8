-- Signed numbers of some width: what they stand for, their form in 20 bits, and a pointer moved by one.
use Rattle.std.specs.Prelude.{ℕ, ◌+◌, ◌-◌, ◌%◌, ◌^◌, ltb, ℤ, pos, negsuc}
use Rattle.ground_rules.specs.Choice.{pick}

-- what `width` bits stand for in two's complement: the upper half of the numbers is negative (`negsuc n` is -(n + 1))
unfoldable pub signed_of : ℕ → ℕ → ℤ
signed_of width x = pick (ltb x (2 ^ (width - 1))) (pos x) (negsuc (2 ^ width - 1 - x))

-- extended by its sign to 20 bits (§6.9): the bits above `width` are copies of its top bit
unfoldable pub extended : ℕ → ℕ → ℕ
extended width x = pick (ltb x (2 ^ (width - 1))) x (x + (1048576 - 2 ^ width))

-- a pointer moved by a signed displacement, in 20 bits (§6.11)
unfoldable pub displaced_by : ℕ → ℤ → ℕ
displaced_by pointer (pos n) = (pointer + n) % 1048576
displaced_by pointer (negsuc n) = (pointer + (1048575 - n % 1048576)) % 1048576
