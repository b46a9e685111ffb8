-- The entries of the words as numbers, as the code has them.
use Rattle.std.specs.Prelude.{◌≡◌, Bool, true, false, ◌&&◌, List, [], ◌∷◌, ℕ, zero, suc, ◌+◌, ◌*◌, ◌/◌, ◌%◌, ◌^◌, Option, Some, None, is_some, eqb, ltb, length, zip, count_by}
use Rattle.std.specs.List.{list_all}
use Rattle.ground_rules.specs.Choice.{pick}
use Rattle.listing_rules.specs.Entries.{OperandKind, Entry}
use Rattle.listing_rules.specs.Entries.OperandKind.{'R, 'G, 'P, 'M, 'byte, 'word, 'bit, 'width, 'short, 'long}
use Rattle.assembly_rules.specs.Operands.{takes}
use Rattle.assembler_forms.specs.declared.operands.Form.{Form}
use Rattle.assembler_forms.specs.declared.operands.Operands.{Operands}
use Rattle.assembler_forms.specs.declared.table.EntryCode.{EntryCode}
use Rattle.assembler_forms.specs.declared.table.PlaceKind.{PlaceKind}
use Rattle.assembler_forms.specs.declared.table.PlaceKind.TheVariants.{Register, General, Pointer, Memory, Byte, Word, Bit, Width, Short, Long}
use Rattle.assembler_forms.specs.Forms.{written_form}

-- characters in one number, the first in its lowest eight bits, and 1 above the last
unfoldable pub packed_word : List ℕ → ℕ
packed_word [] = 1
packed_word (c ∷ cs) = c % 256 + 256 * packed_word cs

-- no word has more than six characters
unfoldable pub word_number : List ℕ → ℕ
word_number cs = pick (ltb 6 (length cs)) 0 (packed_word cs)

-- characters that are bytes
unfoldable pub in_bytes : List ℕ → Bool
in_bytes [] = true
in_bytes (c ∷ cs) = ltb c 256 && in_bytes cs

-- a number that is that of a word
pub record NumberIs (n : ℕ) (word : List ℕ) : Type 0 where
  pub number : n ≡ word_number word
  pub bytes : in_bytes word ≡ true

-- a kind of place by a digit, 0 for none
abbrev pub kind_code : OperandKind → ℕ
kind_code 'R = 1
kind_code 'G = 2
kind_code 'P = 3
kind_code 'M = 4
kind_code 'byte = 5
kind_code 'word = 6
kind_code 'bit = 7
kind_code 'width = 8
kind_code 'short = 9
kind_code 'long = 10

-- so many kinds by as many digits, the first highest
unfoldable pub kinds_code : ℕ → List OperandKind → ℕ
kinds_code zero ks = 0
kinds_code (suc n) [] = 0
kinds_code (suc n) (k ∷ ks) = kind_code k * 16 ^ n + kinds_code n ks

-- an entry: three digits for its kinds, then RRR, dd, W and the opcode
unfoldable pub entry_code : Entry → ℕ
entry_code e = kinds_code 3 e.kinds * 0x100000 + (e.rrr * 0x10000 + (e.dd * 0x1000 + (e.w * 0x100 + e.opcode)))

-- the same as the code has it
abbrev pub coded : Entry → EntryCode
coded e = record { 0 = entry_code e }

-- the entries of a word, by the word's number
unfoldable pub codes_by : List Entry → ℕ → List EntryCode
codes_by [] n = []
codes_by (e ∷ es) n = pick (eqb n (packed_word e.word)) (coded e ∷ codes_by es n) (codes_by es n)

-- a kind of place as the code has it
abbrev pub kind_of : PlaceKind → OperandKind
kind_of Register = 'R
kind_of General = 'G
kind_of Pointer = 'P
kind_of Memory = 'M
kind_of Byte = 'byte
kind_of Word = 'word
kind_of Bit = 'bit
kind_of Width = 'width
kind_of Short = 'short
kind_of Long = 'long

-- a kind by its digit, none for 0
unfoldable pub kind_from : ℕ → Option PlaceKind
kind_from n =
    pick (eqb n 1) (Some Register)
    (pick (eqb n 2) (Some General)
    (pick (eqb n 3) (Some Pointer)
    (pick (eqb n 4) (Some Memory)
    (pick (eqb n 5) (Some Byte)
    (pick (eqb n 6) (Some Word)
    (pick (eqb n 7) (Some Bit)
    (pick (eqb n 8) (Some Width)
    (pick (eqb n 9) (Some Short)
    (pick (eqb n 10) (Some Long) None)))))))))

-- the kinds of an entry's three places
unfoldable pub kinds_in : EntryCode → List (Option PlaceKind)
kinds_in c = kind_from (c.0 / 0x10000000 % 16) ∷ kind_from (c.0 / 0x1000000 % 16) ∷ kind_from (c.0 / 0x100000 % 16) ∷ []

-- whether a place takes an operand, by the rules; what an operand is does not depend on the text
abbrev pub kind_takes : PlaceKind → Form → Bool
kind_takes k f = takes (kind_of k) (written_form [] f)

abbrev pub place_takes : Option PlaceKind → Option Form → Bool
place_takes None None = true
place_takes None (Some f) = false
place_takes (Some k) None = false
place_takes (Some k) (Some f) = kind_takes k f

-- whether each place takes its operand
abbrev pub places_take : List (Option PlaceKind) → List (Option Form) → Bool
places_take ks fs = list_all (λ p. place_takes p.0 p.1) (zip ks fs)

-- how many places an entry has
abbrev pub places_in : EntryCode → ℕ
places_in c = count_by is_some (kinds_in c)

-- an entry takes as many operands as it has places, and each place takes its own
unfoldable pub code_takes : EntryCode → Operands → Bool
code_takes c o = eqb o.count (places_in c) && places_take (kinds_in c) o.forms
