-- Lines and sums computed: tokens, constants in each radix, signs from left to right, parentheses.
-- Assumes nothing.
use mathlib.Core.Path.{◌≡◌, refl}
use mathlib.Core.Bool.{true, false}
use mathlib.Core.List.{[], ◌∷◌, map}
use Prim.Native.Nat.{ℕ, zero, suc}
use Prim.Native.String.{String}
use lib.Dec.{ltb}
use Rattle.ground_rules.specs.Choice.{pick}
use Rattle.listing_rules.specs.Characters.{ascii, same_text}
use Rattle.assembly_rules.specs.declared.Worth.{Worth}
use Rattle.assembly_rules.specs.Text.{capital_of, is_digit, is_capital, is_run, is_blank, ends_line, in_front_of, begun_by, tokens_of, cut_at, lines_in}
use Rattle.assembly_rules.specs.Text.Token.{run, mark}
use Rattle.assembly_rules.specs.Numbers.{digit_value, is_radix, radix_of, last_of, but_last, digits_from, constant_digits, constant_of}
use Rattle.assembly_rules.specs.Sums.{index_in, register_number, is_term, role_of, scanned, scan_from, is_sum, depth_of, label, label_worth, worth, combined_worth, rest_with, sum_with, run_read, term_by, term_of, sum_within, sum_worth}

-- a line with a label, blanks of each kind, small letters and a comment
line-tokens : tokens_of (ascii "here:\tmov [Ga + ix+],b_1\r ; on") ≡ run (ascii "HERE") ∷ mark 58 ∷ run (ascii "MOV") ∷ mark 91 ∷ run (ascii "GA") ∷ mark 43 ∷ run (ascii "IX") ∷ mark 43 ∷ mark 93 ∷ mark 44 ∷ run (ascii "B_1") ∷ []
unfolding tokens_of begun_by in_front_of is_run is_blank ends_line is_digit is_capital capital_of
line-tokens = refl

-- what a sum is worth where X is at 100h
abbrev valued : String → Worth
valued text = sum_worth (label (ascii "X") 0x100 ∷ []) (tokens_of (ascii text))

sums-computed :
    (valued "1-2-3" ≡ worth 65532 true)
    × (valued "5-(-3)" ≡ worth 8 true)
    × (valued "-5" ≡ worth 65531 true)
    × (valued "x+((1))" ≡ worth 257 true)
    × (valued "X-Y" ≡ worth 256 false)
    × (valued "10B+17q-1D" ≡ worth 16 true)
    × (valued "1bh" ≡ worth 27 true)
    × (valued "65536" ≡ worth 0 true)
    × (valued "((((((((9))))))))" ≡ worth 9 true)
unfolding tokens_of begun_by in_front_of is_run is_blank ends_line is_digit is_capital capital_of digit_value is_radix radix_of last_of but_last digits_from constant_digits constant_of index_in register_number label_worth combined_worth rest_with sum_with run_read term_by term_of sum_within sum_worth same_text
sums-computed = (refl, refl, refl, refl, refl, refl, refl, refl, refl)

-- what is a sum, and how deep
forms-told :
    (is_sum (tokens_of (ascii "5--3")) ≡ false)
    × (is_sum (tokens_of (ascii "+5")) ≡ false)
    × (is_sum (tokens_of (ascii "0FF")) ≡ false)
    × (is_sum (tokens_of (ascii "12B")) ≡ false)
    × (is_sum (tokens_of (ascii "GA+1")) ≡ false)
    × (is_sum (tokens_of (ascii "FFH")) ≡ true)
    × (is_sum (tokens_of (ascii "(((((((((1")) ≡ false)
    × (is_sum (tokens_of (ascii "(((((((((1)))))))))")) ≡ true)
    × (depth_of (tokens_of (ascii "(((((((((1)))))))))")) ≡ 9)
    × (depth_of (tokens_of (ascii "(1)+((2)-3)")) ≡ 2)
unfolding tokens_of begun_by in_front_of is_run is_blank ends_line is_digit is_capital capital_of digit_value is_radix radix_of last_of but_last digits_from constant_digits constant_of index_in register_number is_term role_of scanned scan_from is_sum depth_of same_text
forms-told = (refl, refl, refl, refl, refl, refl, refl, refl, refl, refl)

-- the lines of a text
lines_cut : lines_in (ascii "A\n\nB\n") ≡ ascii "A" ∷ [] ∷ ascii "B" ∷ [] ∷ []
unfolding lines_in cut_at
lines_cut = refl

-- the digits by their values
pub digits-valued : map digit_value (ascii "0123456789ABCDEF") ≡ 0 ∷ 1 ∷ 2 ∷ 3 ∷ 4 ∷ 5 ∷ 6 ∷ 7 ∷ 8 ∷ 9 ∷ 10 ∷ 11 ∷ 12 ∷ 13 ∷ 14 ∷ 15 ∷ []
unfolding digit_value is_digit
digits-valued = refl

-- how many bytes below a number have a value
abbrev valued-below : ℕ → ℕ
valued-below zero = 0
valued-below (suc c) = pick (ltb (digit_value c) 16) (suc (valued-below c)) (valued-below c)

-- no other byte has one
pub no-other-digit : valued-below 256 ≡ 16
unfolding digit_value is_digit
no-other-digit = refl
