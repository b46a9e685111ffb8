-- Numbers as characters, in decimal and in hexadecimal, and the letter of a kind of step.
use Rattle.std.specs.Prelude.{Bool, List, [], ◌∷◌, ℕ, ◌+◌, ◌-◌, ◌/◌, ◌%◌, eqb, ltb, drop}
use Rattle.ground_rules.specs.Choice.{pick}
use Rattle.turn_rules.specs.declared.Kind.{Kind}
use Rattle.turn_rules.specs.declared.Kind.TheVariants.{Nothing, Instruction, Transfer, External}

-- a hexadecimal digit; from ten on a letter, small or capital
unfoldable pub glyph : Bool → ℕ → ℕ
glyph small d = pick (ltb d 10) (48 + d) (pick small (87 + d) (55 + d))

-- the last eight hexadecimal digits of a number
unfoldable pub eight_digits : Bool → ℕ → List ℕ
eight_digits small n =
    glyph small (n / 268435456 % 16)
    ∷ glyph small (n / 16777216 % 16)
    ∷ glyph small (n / 1048576 % 16)
    ∷ glyph small (n / 65536 % 16)
    ∷ glyph small (n / 4096 % 16)
    ∷ glyph small (n / 256 % 16)
    ∷ glyph small (n / 16 % 16)
    ∷ glyph small (n % 16)
    ∷ []

-- the last `width` of them, and never more than eight
unfoldable pub hex : Bool → ℕ → ℕ → List ℕ
hex small width n = drop (8 - width) (eight_digits small n)

-- the last ten decimal digits of a number
unfoldable pub ten_digits : ℕ → List ℕ
ten_digits n =
    (48 + n / 1000000000 % 10)
    ∷ (48 + n / 100000000 % 10)
    ∷ (48 + n / 10000000 % 10)
    ∷ (48 + n / 1000000 % 10)
    ∷ (48 + n / 100000 % 10)
    ∷ (48 + n / 10000 % 10)
    ∷ (48 + n / 1000 % 10)
    ∷ (48 + n / 100 % 10)
    ∷ (48 + n / 10 % 10)
    ∷ (48 + n % 10)
    ∷ []

-- digits without the zeros in front; the last one stays
unfoldable pub unpadded : List ℕ → List ℕ
unpadded [] = []
unpadded (d ∷ []) = d ∷ []
unpadded (d ∷ e ∷ digits) = pick (eqb d 48) (unpadded (e ∷ digits)) (d ∷ e ∷ digits)

-- a number of 32 bits in decimal
unfoldable pub decimal : ℕ → List ℕ
decimal n = unpadded (ten_digits n)

-- I for an instruction, T for a transfer, X for an external end, a dot for a refused step
unfoldable pub letter : Kind → ℕ
letter Nothing = 46
letter Instruction = 73
letter Transfer = 84
letter External = 88
