-- The held byte of a channel as one number, for states in bytes and in text (§2.13).
use Rattle.std.specs.Prelude.{Bool, ◌&&◌, ◌||◌, ℕ, ◌+◌, ◌%◌, eqb, ltb, leb, Option, None, Some}
use Rattle.ground_rules.specs.Choice.{pick}

-- 0 where nothing is held, 256 + the byte where one is
unfoldable pub held_number : Option ℕ → ℕ
held_number None = 0
held_number (Some byte) = 256 + byte

-- what a number stands for
unfoldable pub held_from : ℕ → Option ℕ
held_from n = pick (ltb n 256) None (Some (n % 256))

-- the numbers that stand for something: 0, and 256 to 511
unfoldable pub is_held_number : ℕ → Bool
is_held_number n = eqb n 0 || leb 256 n && ltb n 512
