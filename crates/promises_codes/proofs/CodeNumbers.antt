-- The decoder's numbers are those of the codes, held against each other at all 65,536 pairs of bytes, and so many pairs have each.
-- Assumes nothing.
use Rattle.std.proofs.Common.{Some, None}
use Prim.Native.Nat.{ℕ, zero, suc, ◌/◌, ◌%◌, ◌<◌}
use borrow.Author.Tests.{eqb-true}
use lib.Dec.{eqb}
use lib.ListN.{get_or}
use mathlib.Core.Bool.{Bool, true, false, ◌&&◌}
use mathlib.Core.List.{List}
use mathlib.Core.Path.{◌≡◌, refl, ap, sym, ◌∙◌}
use native.Mathlib.Decide.{ℕ_discrete}
use native.Mathlib.Omega.{arith}
use Rattle.ground_rules.specs.Bits.{field_of, bit_of}
use Rattle.ground_rules.specs.Choice.{pick}
use Rattle.ground_rules.proofs.ChoiceLaws.{apart}
use Rattle.instruction_rules.specs.Pairs.{pair_of}
use Rattle.instruction_rules.specs.Reading.{lookup, decode_of, decoded_number, second_of, second_number_of}
use Rattle.instruction_rules.specs.Table.{SummaryRow, table}
use Rattle.instruction_rules.specs.declared.Memory.{Memory}
use Rattle.instruction_rules.proofs.TableLaws.{rows_at, own-rows}
use Rattle.promises_codes.specs.Codes.{Code, none, codes, code_number, number_by_codes, second_by_codes, sum_below, pairs_given, DecoderCodes}

-- whether a test holds of every number below n
unfoldable pub all_below : ℕ → (ℕ → Bool) → Bool
all_below zero f = true
all_below (suc n) f = f n && all_below n f

-- where it holds of all, it holds of each
pub of-all : (n : ℕ) (f : ℕ → Bool) → all_below n f ≡ true → (i : ℕ) → i < n → f i ≡ true
unfolding all_below
of-all zero f e i h = absurd (omega (arith, h))
of-all (suc n) f e i h = go (f n) refl (ℕ_discrete i n) (of-all n f)
  where
    go : (b : Bool) → f n ≡ b → Dec (i ≡ n) → (all_below n f ≡ true → (j : ℕ) → j < n → f j ≡ true) → f i ≡ true
    go true x (yes z) rest = ap f z ∙ x
    go true x (no ne) rest = rest (rw x at e) i (omega (arith, h, ne))
    go false x z rest = apart (sym (rw x at e))

-- two rules that agree below n have one sum
sum_same : (n : ℕ) (f g : ℕ → ℕ) → ((i : ℕ) → i < n → f i ≡ g i) → sum_below n f ≡ sum_below n g
unfolding sum_below
sum_same zero f g e = refl
sum_same (suc n) f g e = rw (sum_same n f g (λ i h. e i (omega (arith, h))), e n (omega arith))

-- the rows of an opcode against its code, at every first byte; both are handed over, so that they are worked out once
agree_at : List SummaryRow → Code → ℕ → Bool
agree_at rows c second = all_below 256 (λ (first : ℕ). eqb (decoded_number (lookup rows (pair_of first second))) (code_number c first second))

-- the whole table against the codes
whole : all_below 256 (λ (second : ℕ). agree_at (rows_at (field_of second 2 6) table) (get_or codes (second / 4) none) second) ≡ true
unfolding all_below agree_at lookup table rows_at pair_of field_of bit_of codes code_number
whole = refl

-- a pair of bytes has the number that its code says
by_codes : (first second : ℕ) → first < 256 → second < 256 → decoded_number (decode_of first second) ≡ number_by_codes first second
unfolding decode_of agree_at pair_of number_by_codes
by_codes first second f s =
    ap decoded_number (own-rows table (pair_of first second))
    ∙ eqb-true _ _ (of-all 256 _ (of-all 256 _ whole second s) first f)

-- what a second pair asks of its first byte
seconds : (wide : Bool) → all_below 256 (λ (first : ℕ). eqb (second_number_of (second_of first 0xCC wide)) (second_by_codes first 0xCC wide)) ≡ true
unfolding all_below second_of second_by_codes pair_of field_of
seconds true = refl
seconds false = refl

told : (b x y : Bool) (m m' : Memory) → second_number_of (pick x (Some m) None) ≡ pick y 0 3 → second_number_of (pick (b && x) (Some m') None) ≡ pick (b && y) 0 3
told false x y m m' e = refl
told true true y m m' e = e
told true false y m m' e = e

-- a second pair has the number of opcode 33h
second-by-codes : (wide : Bool) (first second : ℕ) → first < 256 → second < 256 → second_number_of (second_of first second wide) ≡ second_by_codes first second wide
unfolding second_of second_by_codes pair_of field_of
second-by-codes wide first second f s =
    let six : second / 4 % 64 ≡ second / 4 = omega (arith, s) in
    rw six (told (eqb (second / 4) 0x33) _ _ _ _ (eqb-true _ _ (of-all 256 _ (seconds wide) first f)))

-- how many pairs with a second byte a code gives a number, and all of them
given_at : Code → ℕ → ℕ → ℕ
given_at c second number = sum_below 256 (λ (first : ℕ). pick (eqb (code_number c first second) number) 1 0)

given : ℕ → ℕ
given number = sum_below 256 (λ (second : ℕ). given_at (get_or codes (second / 4) none) second number)

-- as many pairs as the codes give
counted : (number : ℕ) → pairs_given (λ (first second : ℕ). decoded_number (decode_of first second)) number ≡ given number
unfolding pairs_given given_at given number_by_codes
counted number = sum_same 256 _ _ (λ second s. sum_same 256 _ _ (λ first f. ap (λ (n : ℕ). pick (eqb n number) 1 0) (by_codes first second f s)))

instructions : given 0 ≡ 3687
unfolding given given_at sum_below codes code_number bit_of
instructions = refl

control-used : given 4 ≡ 237
unfolding given given_at sum_below codes code_number bit_of
control-used = refl

no-instructions : given 3 ≡ 61612
unfolding given given_at sum_below codes code_number bit_of
no-instructions = refl

-- the codes of the data sheet, in numbers
pub decoder-codes : DecoderCodes
decoder-codes =
    record {
      first-pairs = by_codes;
      second-pairs = second-by-codes;
      instructions = counted 0 ∙ instructions;
      control-used = counted 4 ∙ control-used;
      no-instructions = counted 3 ∙ no-instructions;
    }
