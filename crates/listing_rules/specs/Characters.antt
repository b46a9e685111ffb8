-- The characters of a listing by their ASCII codes (§13.1).
use Rattle.std.specs.Prelude.{List, [], ◌∷◌, ◌++◌, ℕ, zero, suc, ◌+◌, ◌/◌, ◌%◌, Bool, true, false, ◌&&◌, eqb, ltb}
use Prim.Native.String.{String, len, char_at}
use Prim.Native.Char.{code}
use Rattle.ground_rules.specs.Choice.{pick}

-- the codes of `count` characters of a quoted text from a place on
abbrev pub ascii_from : ℕ → ℕ → String → List ℕ
ascii_from zero place text = []
ascii_from (suc count) place text = code (char_at text place) ∷ ascii_from count (suc place) text

-- the codes of a quoted text
abbrev pub ascii : String → List ℕ
ascii text = ascii_from (len text) 0 text

-- whether two texts are the same
unfoldable pub same_text : List ℕ → List ℕ → Bool
same_text [] [] = true
same_text [] (d ∷ ds) = false
same_text (c ∷ cs) [] = false
same_text (c ∷ cs) (d ∷ ds) = eqb c d && same_text cs ds

-- the digit, a capital where it is over 9
unfoldable pub hex_glyph : ℕ → ℕ
hex_glyph d = pick (ltb d 10) (48 + d) (55 + d)

-- the two hexadecimal digits of each byte, of the last byte first: a word is stored low byte first
unfoldable pub hex_digits : List ℕ → List ℕ
hex_digits [] = []
hex_digits (b ∷ bytes) = hex_digits bytes ++ (hex_glyph (b / 16 % 16) ∷ hex_glyph (b % 16) ∷ [])

-- a number of one byte or two: 0, its digits, H (§13.1)
unfoldable pub number_text : List ℕ → List ℕ
number_text bytes = ascii "0" ++ (hex_digits bytes ++ ascii "H")

-- a bit's number or a width, in decimal (§13.1)
unfoldable pub digit_text : ℕ → List ℕ
digit_text n = pick (ltb n 10) ((48 + n) ∷ []) ((48 + n / 10 % 10) ∷ (48 + n % 10) ∷ [])
