-- Bytes laid at the start of a room, and the items of a line of data by their place.
use Rattle.std.specs.Prelude.{◌≡◌, true, not, Option, List, [], ◌∷◌, ℕ, ◌+◌, ◌%◌, set, drop}
use Rattle.std.specs.Bool.{then_some}
use Rattle.assembler_forms.specs.Rows.{ends_at}
use Rattle.assembly_rules.specs.Text.{Token, tokens_of}
use Rattle.assembly_rules.specs.Statements.{operand_parts, all_sums, all_low}

-- as many bytes as there is room for, each mod 256
unfoldable pub bytes_laid : List ℕ → List ℕ → List ℕ
bytes_laid [] code = code
bytes_laid (b ∷ bs) [] = []
bytes_laid (b ∷ bs) (c ∷ code) = b % 256 ∷ bytes_laid bs code

-- the same from a place on
unfoldable pub laid_at : List ℕ → ℕ → List ℕ → List ℕ
laid_at code at [] = code
laid_at code at (b ∷ bs) = laid_at (set code at (b % 256)) (at + 1) bs

-- the items of a line of data
abbrev pub data_at : List ℕ → ℕ → List (List Token)
data_at text place = operand_parts (tokens_of (drop place text))

-- the place of the first of them, none where the line ends
abbrev pub first_item : List ℕ → ℕ → Option ℕ
first_item text place = then_some (not (ends_at text place)) place

-- items that are sums, no more than eight parentheses open at once
pub record PartsAreSums (parts : List (List Token)) : Type 0 where
  pub sums : all_sums parts ≡ true
  pub low : all_low parts ≡ true
