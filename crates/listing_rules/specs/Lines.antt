-- A line: a word, a blank, operands with commas between them, and a line feed (§13.1).
use Rattle.std.specs.Prelude.{List, [], ◌∷◌, ◌++◌, ℕ}
use Rattle.instruction_rules.specs.declared.Memory.{Memory}
use Rattle.instruction_rules.specs.declared.Shape.{Shape}
use Rattle.listing_rules.specs.Characters.{ascii, number_text}
use Rattle.listing_rules.specs.Mnemonics.{mnemonic_of}
use Rattle.listing_rules.specs.Forms.{slots_of, filled, following}
use Rattle.listing_rules.specs.declared.Slots.{Slots}

abbrev pub 'blank : ℕ
'blank = 32

abbrev pub 'comma : ℕ
'comma = 44

-- LF, the end of a line
abbrev pub 'end : ℕ
'end = 10

-- a word with what the bytes put into its places (§13.1)
unfoldable pub line_with : List ℕ → Slots → List ℕ → ℕ → List ℕ
line_with word places bytes end =
    word ++ (following 'blank (filled bytes end places.first) ++ (following 'comma (filled bytes end places.second) ++ (following 'comma (filled bytes end places.third) ++ 'end ∷ [])))

-- the line of an instruction that `bytes` begin with; `end` is the address behind it (§13.1)
unfoldable pub instruction_line : List ℕ → ℕ → Shape → Memory → List ℕ
instruction_line bytes end shape to = line_with (mnemonic_of shape) (slots_of shape to) bytes end

-- numbers of one byte, each behind a separator: the first behind the given one, the others behind a comma
unfoldable pub data_items : ℕ → List ℕ → List ℕ
data_items separator [] = []
data_items separator (b ∷ bytes) = separator ∷ number_text (b ∷ []) ++ data_items 'comma bytes

-- a DB line: bytes as they are (§13.3)
unfoldable pub data_line : List ℕ → List ℕ
data_line bytes = ascii "DB" ++ (data_items 'blank bytes ++ 'end ∷ [])
