-- The laws of numbers as characters: how many there are at most, and zeros in front passed over one at a time.
-- Assumes nothing.
use Rattle.std.proofs.Common.{◌≡◌, ◌==◌, ◌⊎◌, inl, inr, refl, ap, Bool, true, false, not, cond, List, [], ◌∷◌, ℕ, zero, suc, ◌+◌, ◌-◌, ◌*◌, ◌/◌, ◌%◌, ◌^◌, ◌≤◌, ◌<◌, length, take, drop, unwrap_or, one-add, arith}
use Rattle.std.specs.List.{position, position_or_len}
use Rattle.std.proofs.lemmas.Bool.{cases_lt}
use Rattle.std.proofs.lemmas.List.{length-take}
use Rattle.std.proofs.lemmas.List.Sums.{prefix_len-le-length}
use borrow.Author.Tests.{lt-ltb, le-ltb}
use lib.Dec.{eqb}
use lib.ListN.{length-drop}
use Rattle.ground_rules.specs.Choice.{pick}
use Rattle.page.specs.Numbers.{glyph, eight_digits, hex, ten_digits, unpadded, decimal}

-- ---- lengths

-- a number has no more hexadecimal digits than were asked for
pub hex-short : (small : Bool) (width n : ℕ) → length (hex small width n) ≤ width
unfolding hex eight_digits
hex-short small width n = rw (length-drop (8 - width) (eight_digits small n)) (omega arith)

-- passing over zeros makes nothing longer
unpadded-short : (digits : List ℕ) → length (unpadded digits) ≤ length digits
unfolding unpadded
unpadded-short [] = omega arith
unpadded-short (d ∷ []) = omega arith
unpadded-short (d ∷ e ∷ digits) = go (eqb d 48) (unpadded-short (e ∷ digits))
  where
    go : (t : Bool) → length (unpadded (e ∷ digits)) ≤ suc (length digits)
        → length (pick t (unpadded (e ∷ digits)) (d ∷ e ∷ digits)) ≤ suc (suc (length digits))
    go true h = omega arith
    go false h = omega arith

-- a number has at most ten decimal digits
pub decimal-short : (n : ℕ) → length (decimal n) ≤ 10
unfolding decimal ten_digits
decimal-short n = unpadded-short (ten_digits n)

-- ---- hexadecimal digits

-- of no digits none is left
pub hex_none : (small : Bool) (n : ℕ) → hex small 0 n ≡ []
unfolding hex eight_digits
hex_none small n = refl

-- one digit more is the one in front
pub hex_next : (small : Bool) (n k : ℕ) → k < 8 → hex small (k + 1) n ≡ glyph small (n / 2 ^ (4 * k % 64) % 16) ∷ hex small k n
unfolding hex eight_digits
hex_next small n zero h = let same : n % 16 ≡ n / 1 % 16 = omega arith in ap (λ (d : ℕ). glyph small d ∷ []) same
hex_next small n (suc zero) h = refl
hex_next small n (suc (suc zero)) h = refl
hex_next small n (suc (suc (suc zero))) h = refl
hex_next small n (suc (suc (suc (suc zero)))) h = refl
hex_next small n (suc (suc (suc (suc (suc zero))))) h = refl
hex_next small n (suc (suc (suc (suc (suc (suc zero)))))) h = refl
hex_next small n (suc (suc (suc (suc (suc (suc (suc zero))))))) h = refl
hex_next small n (suc (suc (suc (suc (suc (suc (suc (suc k)))))))) h = absurd (omega arith)

-- ---- zeros in front

-- of the places up to the last, the first that passes, or the last
first_or_last : (p : ℕ → Bool) (l : List ℕ) (n : ℕ) → length l ≡ n → unwrap_or (position p l) n ≡ position_or_len p l
first_or_last p l n e = go (cases_lt (position_or_len p l) (length l))
  where
    go : (position_or_len p l < length l) ⊎ (length l ≤ position_or_len p l) → unwrap_or (position p l) n ≡ position_or_len p l
    go (inl h) = rw (lt-ltb (position_or_len p l) (length l) h)
    go (inr h) = rw (le-ltb (position_or_len p l) (length l) h) (omega (arith, prefix_len-le-length (λ x. not (p x)) l))

-- the digits from the first that is no zero on, at the latest the last one
from_first : (n : ℕ) (digits : List ℕ) → length digits ≡ n + 1 → drop (position_or_len (λ d. not (d == 48)) (take n digits)) digits ≡ unpadded digits
unfolding unpadded
from_first zero (d ∷ []) e = refl
from_first zero [] e = absurd (omega arith)
from_first zero (d ∷ x ∷ digits) e = absurd (omega arith)
from_first (suc n) [] e = absurd (omega arith)
from_first (suc n) (d ∷ []) e = absurd (omega arith)
from_first (suc n) (d ∷ x ∷ digits) e = go (eqb d 48) (from_first n (x ∷ digits) (omega arith))
  where
    k : ℕ
    k = position_or_len (λ d. not (d == 48)) (take n (x ∷ digits))

    go : (t : Bool) → drop k (x ∷ digits) ≡ unpadded (x ∷ digits)
        → drop (cond (not (not t)) (1 + k) 0) (d ∷ x ∷ digits) ≡ pick t (unpadded (x ∷ digits)) (d ∷ x ∷ digits)
    go true h = rw (one-add k) h
    go false h = refl

-- so of ten digits
pub unpadded_from : (digits : List ℕ) → length digits ≡ 10
    → drop (unwrap_or (position (λ d. not (d == 48)) (take 9 digits)) 9) digits ≡ unpadded digits
unpadded_from digits e =
    let nine : length (take 9 digits) ≡ 9 = omega (arith, length-take 9 digits) in
    rw (first_or_last (λ d. not (d == 48)) (take 9 digits) 9 nine) (from_first 9 digits e)
