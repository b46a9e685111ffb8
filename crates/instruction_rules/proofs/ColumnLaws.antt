-- What the marks of the instruction summary let through, value by value.
-- Assumes nothing.
use mathlib.Core.Path.{◌≡◌, refl}
use mathlib.Core.Bool.{Bool, true, false}
use mathlib.Core.List.{List, [], ◌∷◌, map}
use Prim.Native.Nat.{ℕ}
use Rattle.instruction_rules.specs.Pairs.{Column, meets}
use Rattle.instruction_rules.specs.Pairs.Column.{'1SD, 'PPP, 'dd, 'wb}

-- what a column says, beside W, of the values 0 to 3
abbrev of_two_bits : Column → ℕ → List Bool
of_two_bits c w = map (meets c w) (0 ∷ 1 ∷ 2 ∷ 3 ∷ [])

-- and of 0 to 7
abbrev of_three_bits : Column → List Bool
of_three_bits c = map (meets c 0) (0 ∷ 1 ∷ 2 ∷ 3 ∷ 4 ∷ 5 ∷ 6 ∷ 7 ∷ [])

-- WID has the upper half of RRR
pub widths : of_three_bits '1SD ≡ false ∷ false ∷ false ∷ false ∷ true ∷ true ∷ true ∷ true ∷ []
widths = refl

-- the pointers are GA, GB, GC and TP
pub pointers : of_three_bits 'PPP ≡ true ∷ true ∷ true ∷ false ∷ true ∷ false ∷ false ∷ false ∷ []
pointers = refl

-- a displacement has one byte or two, whatever W is
pub displacements : (w : ℕ) → of_two_bits 'dd w ≡ false ∷ true ∷ true ∷ false ∷ []
displacements w = refl

-- an immediate has one byte with W 0, two with W 1
pub byte-data : of_two_bits 'wb 0 ≡ false ∷ true ∷ false ∷ false ∷ []
byte-data = refl

pub word-data : of_two_bits 'wb 1 ≡ false ∷ false ∷ true ∷ false ∷ []
word-data = refl
