-- A word and its two bytes.
use Rattle.std.specs.Prelude.{ℕ, ◌+◌, ◌*◌, ◌/◌, ◌%◌}

-- bits 7-0 of a word
abbrev pub low_byte : ℕ → ℕ
low_byte x = x % 256

-- bits 15-8 of a word
abbrev pub high_byte : ℕ → ℕ
high_byte x = x / 256 % 256

-- the word of a low and a high byte
abbrev pub word_of : ℕ → ℕ → ℕ
word_of low high = low + high * 256
