-- The laws of a field, of a bit and of a number with one bit changed, each once over the position and the width; and that masks and shifts compute them.
-- Assumes nothing.
use mathlib.Core.Bool.{Bool, true, false}
use mathlib.Core.Path.{◌≡◌, sym, ap, ap₂, subst, ◌∙◌}
use Prim.Native.Nat.{ℕ, ◌+◌, ◌-◌, ◌*◌, ◌/◌, ◌%◌, ◌^◌, ◌<◌, ◌≤◌}
use native.Mathlib.Nat.{mod-lt, mod-eq_of_lt, mod-mod, div-eq_of_lt, div-le_self, zero-mod, zero-mul, one-mul, add-zero, add_comm, add_assoc, mul_assoc, mul_comm, add-mul, lt_of_lt_of_le, lt_of_le_of_lt}
use native.Mathlib.Decide.{ℕ_discrete, dec_lt}
use native.Mathlib.Omega.{arith}
use lib.Bits.{bit_and, bit_or, and_mask, and_high, and_block, and_le_l, or_block, or_step, or_zero_r, or_lt}
use lib.Pow.{pow_pos, pow_mono, pow-add, pow-lt, ones_lt, shr-shr, shr_mod, shr_lt, split, high, low, field, mod-mod-pow, mod-pow-add}
use borrow.Author.Tests.{eq-eqb, ne_eqb}
use lib.Dec.{eqb}
use Rattle.ground_rules.specs.Choice.{pick}
use Rattle.ground_rules.specs.Bits.{field_of, bit_of, with_bit}

-- a one that is shifted by less than the width is a power of two
pub one_shifted : (w k : ℕ) → k < w → 1 * 2 ^ k % 2 ^ w ≡ 2 ^ k
one_shifted w k h = ap (λ (n : ℕ). n % 2 ^ w) (one-mul (2 ^ k)) ∙ mod-eq_of_lt (pow-lt h)

-- a field of `width` bits is below 2 ^ width
pub field_lt : (x at width : ℕ) → field_of x at width < 2 ^ width
unfolding field_of
field_lt x at width = mod-lt (x / 2 ^ at) (pow_pos width)

-- past the number's own width a field is 0
pub field_past : (w x at width : ℕ) → x < 2 ^ w → w ≤ at → field_of x at width ≡ 0
unfolding field_of
field_past w x at width hx h = ap (λ (n : ℕ). n % 2 ^ width) (div-eq_of_lt (lt_of_lt_of_le hx (pow_mono h))) ∙ zero-mod (2 ^ width)

-- a field as wide as the number is all that the shift leaves
pub field-wide : (w x at width : ℕ) → x < 2 ^ w → w ≤ width → field_of x at width ≡ x / 2 ^ at
unfolding field_of
field-wide w x at width hx h = mod-eq_of_lt (lt_of_lt_of_le (lt_of_le_of_lt (div-le_self x (2 ^ at)) hx) (pow_mono h))

-- a shift and a mask take a field out
pub field-masked : (x at width : ℕ) → bit_and (x / 2 ^ at) (2 ^ width - 1) ≡ field_of x at width
unfolding field_of
field-masked x at width = and_mask (x / 2 ^ at) width

-- ---- a number with one bit changed, in digits: the bits above, the bit, the bits below

digit : Bool → ℕ
digit true = 1
digit false = 0

digits : (a d k low : ℕ) → (a * 2 + d) * 2 ^ k + low ≡ a * 2 ^ (k + 1) + d * 2 ^ k + low
digits a d k low =
    ap (λ (n : ℕ). n + low)
    (add-mul (a * 2) d (2 ^ k)
    ∙ ap (λ (n : ℕ). n + d * 2 ^ k) (mul_assoc a 2 (2 ^ k) ∙ ap (λ (n : ℕ). a * n) (mul_comm 2 (2 ^ k) ∙ sym (pow-add 2 k 1))))

with-digits : (x k : ℕ) (on : Bool) → with_bit x k on ≡ (x / 2 ^ (k + 1) * 2 + digit on) * 2 ^ k + x % 2 ^ k
unfolding with_bit digit
with-digits x k true = ap (λ (n : ℕ). x / 2 ^ (k + 1) * 2 ^ (k + 1) + n + x % 2 ^ k) (sym (one-mul (2 ^ k))) ∙ sym (digits (x / 2 ^ (k + 1)) 1 k (x % 2 ^ k))
with-digits x k false = ap (λ (n : ℕ). x / 2 ^ (k + 1) * 2 ^ (k + 1) + n + x % 2 ^ k) (sym (zero-mul (2 ^ k))) ∙ sym (digits (x / 2 ^ (k + 1)) 0 k (x % 2 ^ k))

-- an or with a one at bit k sets it
pub set-masked : (x k : ℕ) → bit_or x (2 ^ k) ≡ with_bit x k true
unfolding digit
set-masked x k =
    let hi = x / 2 ^ k in
    ap₂ bit_or (sym (split x k)) (sym (one-mul (2 ^ k)) ∙ sym (add-zero (1 * 2 ^ k)))
    ∙ or_block k hi 1 (x % 2 ^ k) 0 (mod-lt x (pow_pos k)) (pow_pos k)
    ∙ ap₂ (λ (m n : ℕ). m * 2 ^ k + n) (set-lowest hi) (or_zero_r (x % 2 ^ k))
    ∙ ap (λ (n : ℕ). (n * 2 + 1) * 2 ^ k + x % 2 ^ k) (shr-shr x k 1)
    ∙ sym (with-digits x k true)
  where
    set-lowest : (n : ℕ) → bit_or n 1 ≡ n / 2 * 2 + 1
    set-lowest n = or_step n 1 ∙ ap₂ (λ (a b : ℕ). a * 2 + b) (or_zero_r (n / 2)) (omega arith)

-- all ones but the one at bit k, in digits
others : (j k : ℕ) → 2 ^ (j + 1 + k) - 1 - 2 ^ k ≡ (2 ^ (j + 1) - 2 ^ 1) * 2 ^ k + (2 ^ k - 1)
others j k =
    let least : 2 ≤ 2 ^ (j + 1) = pow_mono {i = 1} (omega arith) in
    let back : 2 ^ (j + 1) ≡ 2 ^ (j + 1) - 2 + 2 = omega arith in
    let apart : 2 ^ (j + 1 + k) ≡ (2 ^ (j + 1) - 2) * 2 ^ k + 2 * 2 ^ k = pow-add 2 (j + 1) k ∙ ap (λ (n : ℕ). n * 2 ^ k) back ∙ add-mul (2 ^ (j + 1) - 2) 2 (2 ^ k) in
    omega (arith, apart, pow_pos k)

clear-below : (j x k : ℕ) → x < 2 ^ (j + 1 + k) → bit_and x (2 ^ (j + 1 + k) - 1 - 2 ^ k) ≡ with_bit x k false
unfolding digit
clear-below j x k hx =
    let hi = x / 2 ^ k in
    ap₂ bit_and (sym (split x k)) (others j k)
    ∙ and_block k hi (2 ^ (j + 1) - 2 ^ 1) (x % 2 ^ k) (2 ^ k - 1) (mod-lt x (pow_pos k)) (ones_lt k)
    ∙ ap₂ (λ (m n : ℕ). m * 2 ^ k + n) (and_high hi j 1 ∙ ap (λ (n : ℕ). n * 2) (shr_mod j 1 (shr_lt (j + 1) k hx))) (and_mask (x % 2 ^ k) k ∙ mod-mod x (2 ^ k))
    ∙ ap (λ (n : ℕ). n * 2 * 2 ^ k + x % 2 ^ k) (shr-shr x k 1)
    ∙ ap (λ (n : ℕ). n * 2 ^ k + x % 2 ^ k) (sym (add-zero (x / 2 ^ (k + 1) * 2)))
    ∙ sym (with-digits x k false)

-- an and with all ones but the one at bit k clears it
pub clear-masked : (w x k : ℕ) → x < 2 ^ w → k < w → bit_and x (2 ^ w - 1 - 2 ^ k) ≡ with_bit x k false
clear-masked w x k hx h =
    let e : w - 1 - k + 1 + k ≡ w = omega arith in
    subst (λ (n : ℕ). x < 2 ^ n → bit_and x (2 ^ n - 1 - 2 ^ k) ≡ with_bit x k false) e (clear-below (w - 1 - k) x k) hx

-- a changed bit stays within the number's width
pub with-bit-lt : (w x k : ℕ) (on : Bool) → x < 2 ^ w → k < w → with_bit x k on < 2 ^ w
with-bit-lt w x k true hx h = rw (← (set-masked x k)) (or_lt w x (2 ^ k) hx (pow-lt h))
with-bit-lt w x k false hx h = rw (← (clear-masked w x k hx h)) (lt_of_le_of_lt (and_le_l x (2 ^ w - 1 - 2 ^ k)) hx)

over : (x k : ℕ) (on : Bool) → with_bit x k on / 2 ^ k ≡ x / 2 ^ (k + 1) * 2 + digit on
over x k on = ap (λ (n : ℕ). n / 2 ^ k) (with-digits x k on) ∙ high (x / 2 ^ (k + 1) * 2 + digit on) k (mod-lt x (pow_pos k))

-- the changed bit reads as it was made
pub bit-same : (x k : ℕ) (on : Bool) → bit_of (with_bit x k on) k ≡ on
unfolding bit_of digit
bit-same x k true = rw (over x k true) (eq-eqb ((x / 2 ^ (k + 1) * 2 + 1) % 2) 1 (omega arith))
bit-same x k false = rw (over x k false) (ne_eqb ((x / 2 ^ (k + 1) * 2 + 0) % 2) 1 (omega arith))

bits_below : (x y i j : ℕ) → x % 2 ^ (i + 1 + j) ≡ y % 2 ^ (i + 1 + j) → x / 2 ^ j % 2 ≡ y / 2 ^ j % 2
bits_below x y i j e = sym (lowest x) ∙ ap (λ (n : ℕ). n / 2 ^ j % 2) e ∙ lowest y
  where
    lowest : (n : ℕ) → n % 2 ^ (i + 1 + j) / 2 ^ j % 2 ≡ n / 2 ^ j % 2
    lowest n = ap (λ (m : ℕ). m % 2) (field n (i + 1) j) ∙ mod-mod-pow (n / 2 ^ j) i 1

bits_above : (x y i k : ℕ) → x / 2 ^ k ≡ y / 2 ^ k → x / 2 ^ (k + i) ≡ y / 2 ^ (k + i)
bits_above x y i k e = sym (shr-shr x k i) ∙ ap (λ (n : ℕ). n / 2 ^ i) e ∙ shr-shr y k i

kept-below : (x k : ℕ) (on : Bool) → with_bit x k on % 2 ^ k ≡ x % 2 ^ k
kept-below x k on = ap (λ (n : ℕ). n % 2 ^ k) (with-digits x k on) ∙ low (x / 2 ^ (k + 1) * 2 + digit on) k (mod-lt x (pow_pos k))

kept_above : (x k : ℕ) (on : Bool) → with_bit x k on / 2 ^ (k + 1) ≡ x / 2 ^ (k + 1)
unfolding digit
kept_above x k true = sym (shr-shr (with_bit x k true) k 1) ∙ ap (λ (n : ℕ). n / 2) (over x k true) ∙ omega arith
kept_above x k false = sym (shr-shr (with_bit x k false) k 1) ∙ ap (λ (n : ℕ). n / 2) (over x k false) ∙ omega arith

-- every other bit reads as it did
pub bit-other : (x k j : ℕ) (on : Bool) → (j ≡ k → ⊥) → bit_of (with_bit x k on) j ≡ bit_of x j
unfolding bit_of
bit-other x k j on ne = ap (λ (n : ℕ). eqb n 1) (go (dec_lt j k))
  where
    go : Dec (j < k) → with_bit x k on / 2 ^ j % 2 ≡ x / 2 ^ j % 2
    go (yes h) =
        let e : k - 1 - j + 1 + j ≡ k = omega arith in
        bits_below (with_bit x k on) x (k - 1 - j) j
        (subst (λ (n : ℕ). with_bit x k on % 2 ^ n ≡ x % 2 ^ n) (sym e) (kept-below x k on))
    go (no h) =
        let e : k + 1 + (j - (k + 1)) ≡ j = omega arith in
        ap (λ (n : ℕ). n % 2)
        (subst (λ (n : ℕ). with_bit x k on / 2 ^ n ≡ x / 2 ^ n) e (bits_above (with_bit x k on) x (j - (k + 1)) (k + 1) (kept_above x k on)))

-- a bit that is made what it is leaves the number
pub with-bit-back : (x k : ℕ) → with_bit x k (bit_of x k) ≡ x
unfolding with_bit bit_of
with-bit-back x k =
    rw (digit (ℕ_discrete (x / 2 ^ k % 2) 1))
    (add_assoc (x / 2 ^ (k + 1) * 2 ^ (k + 1)) (x / 2 ^ k % 2 * 2 ^ k) (x % 2 ^ k)
    ∙ ap (λ (y : ℕ). x / 2 ^ (k + 1) * 2 ^ (k + 1) + y) (sym (mod-pow-add x 1 k) ∙ ap (λ (i : ℕ). x % 2 ^ i) (add_comm 1 k))
    ∙ split x (k + 1))
  where
    digit : Dec (x / 2 ^ k % 2 ≡ 1) → pick (eqb (x / 2 ^ k % 2) 1) (2 ^ k) 0 ≡ x / 2 ^ k % 2 * 2 ^ k
    digit (yes e) = rw (eq-eqb (x / 2 ^ k % 2) 1 e, e) (sym (one-mul (2 ^ k)))
    digit (no ne) = let z : x / 2 ^ k % 2 ≡ 0 = omega arith in rw (ne_eqb (x / 2 ^ k % 2) 1 ne, z) (sym (zero-mul (2 ^ k)))
