-- The laws of a text's definitions, one byte at a time.
-- Assumes nothing.
use Rattle.std.proofs.Common.{◌≡◌, ◌==◌, ◌⊎◌, inl, inr, refl, sym, ap, ◌∙◌, ◌&&◌, Bool, true, false, not, cond, List, [], ◌∷◌, ℕ, suc, ◌+◌, ◌-◌, ◌*◌, ◌^◌, ◌≤◌, ◌<◌, length, take, drop, get_or, Some, None, is_some, unwrap_or, one-add, arith}
use Rattle.std.specs.List.{position, position_or_len, list_all}
use Rattle.std.proofs.lemmas.Bool.{cases_lt}
use Rattle.std.proofs.lemmas.List.{take_rest}
use Rattle.std.proofs.lemmas.List.Recursion.{is_position_or_len}
use Rattle.std.proofs.lemmas.List.Sums.{prefix_len-le-length}
use native.Mathlib.Nat.{pow-suc, pow-le-pow_right}
use native.Mathlib.Numerals.{add-one}
use borrow.Author.Tests.{ne_eqb, lt-ltb, le-ltb, ltb-true}
use lib.Dec.{eqb, ltb, lit<}
use lib.ListN.{drop_of_length-le}
use lib.Seq.{drop-cons}
use Rattle.ground_rules.specs.Choice.{pick}
use Rattle.script_text.specs.Names.{packed}
use Rattle.script_text.specs.Text.{digit_of, digit_told, until_same, until_other, no_number, value_of, all_digits}

-- the bytes from an index on: the one there, and those behind it
pub from-here : (s : List ℕ) (i : ℕ) → i < length s → drop i s ≡ get_or s i 0 ∷ drop (i + 1) s
from-here s i h = rw (add-one i, drop-cons s i 0)

-- a digit is no more than 16
pub digit_most : (b : ℕ) → digit_of b ≤ 16
unfolding digit_of
digit_most b = go (ltb b 48) (ltb b 58) (ltb b 65) (ltb b 71) (ltb b 97) (ltb b 103) (ltb-true b 58) (ltb-true b 71) (ltb-true b 103)
  where
    go : (p q r s t u : Bool) → (q ≡ true → b < 58) → (s ≡ true → b < 71) → (u ≡ true → b < 103)
        → pick p 16 (pick q (b - 48) (pick r 16 (pick s (b - 55) (pick t 16 (pick u (b - 87) 16))))) ≤ 16
    go true q r s t u f g h = omega arith
    go false true r s t u f g h = omega (arith, f refl)
    go false false true s t u f g h = omega arith
    go false false false true t u f g h = omega (arith, g refl)
    go false false false false true u f g h = omega arith
    go false false false false false true f g h = omega (arith, h refl)
    go false false false false false false f g h = omega arith

-- the first place that passes, or the length
or_length : (p : ℕ → Bool) (l : List ℕ) → unwrap_or (position p l) (length l) ≡ position_or_len p l
or_length p l = go (cases_lt (position_or_len p l) (length l))
  where
    go : (position_or_len p l < length l) ⊎ (length l ≤ position_or_len p l) → unwrap_or (position p l) (length l) ≡ position_or_len p l
    go (inl h) = rw (lt-ltb (position_or_len p l) (length l) h)
    go (inr h) = rw (le-ltb (position_or_len p l) (length l) h) (omega (arith, prefix_len-le-length (λ x. not (p x)) l))

module _ (b : ℕ) (s : List ℕ) where
  -- how many bytes stand before the first that is the byte
  until_same_place : unwrap_or (position (λ x. x == b) s) (length s) ≡ until_same b s
  unfolding until_same
  until_same_place = or_length (λ x. x == b) s ∙ sym (is_position_or_len (until_same b) (λ x. x == b) refl (λ x xs. go (eqb x b) (until_same b xs)) s)
    where
      go : (t : Bool) (n : ℕ) → pick t 0 (suc n) ≡ cond t 0 (1 + n)
      go true n = refl
      go false n = sym (one-add n)

  -- and before the first that is another
  until_other_place : unwrap_or (position (λ x. not (x == b)) s) (length s) ≡ until_other b s
  unfolding until_other
  until_other_place = or_length (λ x. not (x == b)) s ∙ sym (is_position_or_len (until_other b) (λ x. not (x == b)) refl (λ x xs. go (eqb x b) (until_other b xs)) s)
    where
      go : (t : Bool) (n : ℕ) → pick t (suc n) 0 ≡ cond (not t) 0 (1 + n)
      go true n = sym (one-add n)
      go false n = refl

module _ (b : ℕ) (s : List ℕ) (at : ℕ) where
  -- so of the bytes from an index on
  pub until_same_rest : unwrap_or (position (λ x. x == b) (take (length s - at) (drop at s))) (length (take (length s - at) (drop at s))) ≡ until_same b (drop at s)
  until_same_rest = rw (take_rest s at) (until_same_place b (drop at s))

  pub until_other_rest : unwrap_or (position (λ x. not (x == b)) (take (length s - at) (drop at s))) (length (take (length s - at) (drop at s))) ≡ until_other b (drop at s)
  until_other_rest = rw (take_rest s at) (until_other_place b (drop at s))

-- past the end no byte stands
pub until_same_end : (b : ℕ) (s : List ℕ) (i : ℕ) → length s ≤ i → until_same b (drop i s) ≡ 0
unfolding until_same
until_same_end b s i h = ap (until_same b) (drop_of_length-le s h)

-- every character is a digit where each has a value
pub all_digits_each : (w : List ℕ) → list_all (λ b. is_some (digit_told b)) w ≡ all_digits w
unfolding all_digits
all_digits_each [] = refl
all_digits_each (b ∷ w) = go (ltb (digit_of b) 16) ∙ ap (λ (t : Bool). pick (ltb (digit_of b) 16) t false) (all_digits_each w)
  where
    rest : Bool
    rest = list_all (λ b. is_some (digit_told b)) w

    go : (t : Bool) → (is_some (pick t (Some (digit_of b)) None) && rest) ≡ pick t rest false
    go true = refl
    go false = refl

-- a word that is not empty has a character
pub not_empty : (w : List ℕ) → not (length w == 0) ≡ ltb 0 (length w)
not_empty [] = refl
not_empty (b ∷ w) = rw (ne_eqb (length (b ∷ w)) 0 (λ e. omega arith), lt-ltb 0 (length (b ∷ w)) (omega arith))

module _ (b : ℕ) where
  -- a digit that has a value
  pub some_value : (d : ℕ) → digit_told b ≡ Some d → (digit_of b < 16) × (digit_of b ≡ d)
  some_value d = go (ltb (digit_of b) 16) (ltb-true (digit_of b) 16)
    where
      go : (t : Bool) → (t ≡ true → digit_of b < 16) → pick t (Some (digit_of b)) None ≡ Some d → (digit_of b < 16) × (digit_of b ≡ d)
      go true h e = (h refl, cc)
      go false h e = cc

  -- and one that has none
  pub no_value : digit_told b ≡ None → 16 ≤ digit_of b
  no_value e = go (cases_lt (digit_of b) 16)
    where
      go : (digit_of b < 16) ⊎ (16 ≤ digit_of b) → 16 ≤ digit_of b
      go (inl h) = let some : digit_told b ≡ Some (digit_of b) = rw (lt-ltb (digit_of b) 16 h) in cc
      go (inr h) = h

module _ (n : ℕ) (w : List ℕ) (i : ℕ) where
  -- with no character left a name is what was packed
  pub packed-end : length w ≤ i → packed n (drop i w) ≡ n
  unfolding packed
  packed-end h = ap (packed n) (drop_of_length-le w h)

  -- one character more of a name
  pub packed-next : i < length w → packed n (drop i w) ≡ packed (n * 256 + get_or w i 0) (drop (i + 1) w)
  unfolding packed
  packed-next h = ap (packed n) (from-here w i h)

  -- with no digit left a number is what was read
  pub value-end : length w ≤ i → value_of n (drop i w) ≡ n
  unfolding value_of
  value-end h = ap (value_of n) (drop_of_length-le w h)

  -- one digit more of a number
  pub value-next : i < length w → digit_of (get_or w i 0) < 16
      → value_of n (drop i w) ≡ value_of (n * 16 + digit_of (get_or w i 0)) (drop (i + 1) w)
  unfolding value_of
  value-next h d = ap (value_of n) (from-here w i h) ∙ rw (lt-ltb (digit_of (get_or w i 0)) 16 d)

  -- a character that is no digit makes it no number
  pub value-stop : i < length w → 16 ≤ digit_of (get_or w i 0) → value_of n (drop i w) ≡ no_number
  unfolding value_of
  value-stop h d = ap (value_of n) (from-here w i h) ∙ rw (le-ltb (digit_of (get_or w i 0)) 16 d)

module _ (n i : ℕ) where
  -- a name of at most six characters fits
  pub name-fits : n < 2 * 256 ^ i → i ≤ 6 → n < 562949953421312
  name-fits h k = let p : 256 ^ i ≤ 281474976710656 = pow-le-pow_right (lit< tt) k in omega arith

  -- a character makes a name 256 times as large at most
  pub name-grows : (b : ℕ) → n < 2 * 256 ^ i → b < 256 → n * 256 + b < 2 * 256 ^ (i + 1)
  name-grows b h k = rw (add-one i, pow-suc 256 i) (omega arith)

  -- a number of at most eight digits fits
  pub number_fits : n < 16 ^ i → i ≤ 8 → n < 4294967296
  number_fits h k = let p : 16 ^ i ≤ 4294967296 = pow-le-pow_right (lit< tt) k in omega arith

  -- one of less than eight digits has room for one more
  pub number_room : n < 16 ^ i → i < 8 → n < 268435456
  number_room h k = let seven : i ≤ 7 = omega arith in let p : 16 ^ i ≤ 268435456 = pow-le-pow_right (lit< tt) seven in omega arith

  -- a digit makes a number 16 times as large at most
  pub number-grows : (d : ℕ) → n < 16 ^ i → d < 16 → n * 16 + d < 16 ^ (i + 1)
  number-grows d h k = rw (add-one i, pow-suc 16 i) (omega arith)
