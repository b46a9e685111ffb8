-- Lines and words: digits, numbers, pairs of digits, and where a word starts and ends.
use Rattle.std.specs.Prelude.{Bool, true, false, ◌&&◌, List, [], ◌∷◌, ℕ, suc, ◌+◌, ◌*◌, ◌-◌, ◌%◌, ltb, leb, eqb, length, take, drop, Option, Some, None}
use Rattle.ground_rules.specs.Choice.{pick}
use Rattle.script_text.specs.Names.{name_of}
use Rattle.script_text.specs.declared.text.Span.{Span}
use Rattle.script_text.specs.declared.text.Word.{Word}
use Rattle.script_text.specs.declared.text.Words.{Words}

-- the value of a hexadecimal digit, 0 to 9, A to F or a to f; 16 for any other byte
unfoldable pub digit_of : ℕ → ℕ
digit_of b =
    pick (ltb b 48) 16
    (pick (ltb b 58) (b - 48)
    (pick (ltb b 65) 16 (pick (ltb b 71) (b - 55) (pick (ltb b 97) 16 (pick (ltb b 103) (b - 87) 16)))))

-- how many bytes stand before the first that is `b`
unfoldable pub until_same : ℕ → List ℕ → ℕ
until_same b [] = 0
until_same b (x ∷ s) = pick (eqb x b) 0 (suc (until_same b s))

-- how many bytes stand before the first that is another than `b`
unfoldable pub until_other : ℕ → List ℕ → ℕ
until_other b [] = 0
until_other b (x ∷ s) = pick (eqb x b) (suc (until_other b s)) 0

-- more than eight digits can write: the number of a word that is none
abbrev pub no_number : ℕ
no_number = 4294967296

-- a number that digits write, or none
abbrev pub numbered : ℕ → Option ℕ
numbered n = pick (ltb n no_number) (Some n) None

-- the number, or more than any where there is none
abbrev pub number_in : Option ℕ → ℕ
number_in None = no_number
number_in (Some n) = n

-- the value of a hexadecimal digit, none for any other byte
abbrev pub digit_told : ℕ → Option ℕ
digit_told b = pick (ltb (digit_of b) 16) (Some (digit_of b)) None

-- the number that digits write behind those that `n` already has
unfoldable pub value_of : ℕ → List ℕ → ℕ
value_of n [] = n
value_of n (b ∷ w) = pick (ltb (digit_of b) 16) (value_of (n * 16 + digit_of b) w) no_number

-- the number that a word of one to eight hexadecimal digits is
unfoldable pub numeral_of : List ℕ → ℕ
numeral_of w = pick (eqb (length w) 0) no_number (pick (leb (length w) 8) (value_of 0 w) no_number)

-- every character is a hexadecimal digit
unfoldable pub all_digits : List ℕ → Bool
all_digits [] = true
all_digits (b ∷ w) = pick (ltb (digit_of b) 16) (all_digits w) false

-- the bytes of `put`: two hexadecimal digits for each, at least one byte
unfoldable pub is_pairs : List ℕ → Bool
is_pairs w = ltb 0 (length w) && eqb (length w % 2) 0 && all_digits w

-- where the word from an index on lies: past the spaces, up to the next space or the end
unfoldable pub span_at : List ℕ → ℕ → Span
span_at line at =
    let from = at + until_other 32 (drop at line) in
    record { from = from; to = from + until_same 32 (drop from line) }

-- the characters of a span
abbrev pub spanned : List ℕ → Span → List ℕ
spanned line s = take (s.to - s.from) (drop s.from line)

-- the word from an index on; with no characters where the line has no more words
unfoldable pub line_word_at : List ℕ → ℕ → Word
line_word_at line at =
    let w = spanned line (span_at line at) in
    record { name = name_of w; number = numbered (numeral_of w); pairs = is_pairs w; to = (span_at line at).to }

-- the first five words of a line, each from where the one before it ends
unfoldable pub words_of : List ℕ → Words
words_of line =
    let first = line_word_at line 0 in
    let second = line_word_at line first.to in
    let third = line_word_at line second.to in
    let fourth = line_word_at line third.to in
    record { first = first; second = second; third = third; fourth = fourth; fifth = line_word_at line fourth.to }

-- where the fourth word of a line lies, the bytes of `put`
unfoldable pub fourth_span : List ℕ → Span
fourth_span line = span_at line (span_at line (span_at line (span_at line 0).to).to).to
