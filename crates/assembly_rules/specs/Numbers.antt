-- Constants: runs that begin with a digit, read in the radix that the last letter tells (§14.2).
use Rattle.std.specs.Prelude.{Bool, ◌&&◌, ◌||◌, List, [], ◌∷◌, ℕ, ◌+◌, ◌*◌, ◌-◌, ◌%◌, eqb, ltb, leb}
use Rattle.ground_rules.specs.Choice.{pick}
use Rattle.std.specs.declared.option.Option.{Option}
use Rattle.std.specs.declared.option.Option.TheVariants.{None, Some}
use Rattle.assembly_rules.specs.Text.{is_digit}

-- what a capital or a digit counts, 16 where it is no hexadecimal digit
unfoldable pub digit_value : ℕ → ℕ
digit_value c = pick (is_digit c) (c - 48) (pick (leb 65 c && leb c 70) (c - 55) 16)

-- B binary, O and Q octal, D decimal, H hexadecimal (§14.2)
unfoldable pub is_radix : ℕ → Bool
is_radix c = eqb c 66 || (eqb c 79 || (eqb c 81 || (eqb c 68 || eqb c 72)))

-- without such a letter it is decimal (§14.2)
unfoldable pub radix_of : ℕ → ℕ
radix_of c = pick (eqb c 66) 2 (pick (eqb c 79 || eqb c 81) 8 (pick (eqb c 72) 16 10))

-- the last of some characters, and those before it
unfoldable pub last_of : List ℕ → ℕ
last_of [] = 0
last_of (c ∷ []) = c
last_of (c ∷ d ∷ cs) = last_of (d ∷ cs)

unfoldable pub but_last : List ℕ → List ℕ
but_last [] = []
but_last (c ∷ []) = []
but_last (c ∷ d ∷ cs) = c ∷ but_last (d ∷ cs)

-- digits read behind a value so far, mod 65,536; each must be below the radix (§14.2)
unfoldable pub digits_from : ℕ → ℕ → List ℕ → Option ℕ
digits_from radix value [] = Some value
digits_from radix value (c ∷ cs) =
    pick (ltb (digit_value c) radix) (digits_from radix ((value * radix + digit_value c) % 65536) cs) None

-- the digits of a run: all of it but a letter for the radix
unfoldable pub constant_digits : List ℕ → List ℕ
constant_digits r = pick (is_radix (last_of r)) (but_last r) r

-- the constant that a run is (§14.2)
unfoldable pub constant_of : List ℕ → Option ℕ
constant_of r = digits_from (radix_of (last_of r)) 0 (constant_digits r)
