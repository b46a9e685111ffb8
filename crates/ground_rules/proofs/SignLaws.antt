-- The laws of signed numbers, each once over the width: what a width's bits stand for, that sign extension keeps it, and that a displacement is the
-- sum with the extended number.
-- Assumes nothing.
use Prim.Native.Nat.{ℕ, suc, ◌+◌, ◌-◌, ◌*◌, ◌%◌, ◌^◌, ◌<◌, ◌≤◌}
use borrow.Author.Tests.{lt-ltb, le-ltb}
use lib.Dec.{ltb}
use lib.IntN.{pos, negsuc, ◌+ℤ◌}
use lib.Pow.{pow_mono, pow-add}
use mathlib.Core.Bool.{Bool, true, false}
use mathlib.Core.Path.{◌≡◌, refl, ap, ◌∙◌}
use mir.Facts.{to_z-of_z, to_z_pos}
use mir.Syntax.{w32}
use mir.Val.{SFits, to_z, of_z}
use native.Mathlib.Decide.{dec_lt}
use native.Mathlib.Nat.{mod-eq_of_lt}
use native.Mathlib.Omega.{arith}
use Rattle.ground_rules.specs.Choice.{pick}
use Rattle.ground_rules.specs.Signs.{signed_of, extended, displaced_by}

-- x less n + 1, below zero and above
negative : (x n : ℕ) → x ≤ n → pos x +ℤ negsuc n ≡ negsuc (n - x)
negative x n h = simp (lt-ltb x (suc n) (omega arith)) (ap negsuc (omega arith))

positive : (x n : ℕ) → suc n ≤ x → pos x +ℤ negsuc n ≡ pos (x - suc n)
positive x n h = simp (le-ltb x (suc n) h)

-- numbers of 16 bits have a difference in an i32's range
pub less-fits : (x n : ℕ) → x < 65536 → n < 65536 → SFits w32 (to_z w32 x +ℤ negsuc n)
less-fits x n hx hn = let small : x < 2 ^ 31 = omega (arith, hx) in rw (to_z_pos w32 small) (by (dec_lt x (suc n)))
  where
    by : Dec (x < suc n) → SFits w32 (pos x +ℤ negsuc n)
    by (yes h) = rw (negative x n (omega (arith, h))) (record { sfits = omega arith })
    by (no h) = rw (positive x n (omega (arith, h))) (record { sfits = omega arith })

-- the numbers of k bits, their halves exchanged, less 2 ^ (k - 1), are what they stand for
pub halves-less : (k x y n : ℕ) → suc n ≡ 2 ^ (k - 1) → 2 ^ k ≡ 2 ^ (k - 1) * 2 → x < 2 ^ k → y < 65536 → n < 65536
    → (x < 2 ^ (k - 1) → y ≡ x + 2 ^ (k - 1)) → (2 ^ (k - 1) ≤ x → y + 2 ^ (k - 1) ≡ x) → to_z w32 (of_z w32 (to_z w32 y +ℤ negsuc n)) ≡ signed_of k x
unfolding signed_of
halves-less k x y n half double hx hy hn low high =
    let small : y < 2 ^ 31 = omega (arith, hy) in
    to_z-of_z (less-fits y n hy hn) ∙ rw (to_z_pos w32 small) (by (dec_lt x (2 ^ (k - 1))))
  where
    by : Dec (x < 2 ^ (k - 1)) → pos y +ℤ negsuc n ≡ pick (ltb x (2 ^ (k - 1))) (pos x) (negsuc (2 ^ k - 1 - x))
    by (yes h) = rw (lt-ltb x (2 ^ (k - 1)) h, positive y n (omega (arith, low h, half))) (ap pos (omega (arith, low h, half)))
    by (no h) =
        let most : 2 ^ (k - 1) ≤ x = omega (arith, h) in
        rw (le-ltb x (2 ^ (k - 1)) most, negative y n (omega (arith, high most, half, double, hx))) (ap negsuc (omega (arith, high most, half, double, hx)))

-- what k bits stand for fits an i32
pub signed-fits : (k x : ℕ) → k ≤ 31 → x < 2 ^ k → SFits w32 (signed_of k x)
unfolding signed_of
signed-fits k x hk hx = go (ltb x (2 ^ (k - 1)))
  where
    most : 2 ^ k ≤ 2 ^ 31
    most = pow_mono hk

    go : (b : Bool) → SFits w32 (pick b (pos x) (negsuc (2 ^ k - 1 - x)))
    go true = record { sfits = omega (arith, most, hx) }
    go false = record { sfits = omega (arith, most, hx) }

-- k bits are twice as many numbers as k - 1
twice : (k : ℕ) → 1 ≤ k → 2 ^ k ≡ 2 ^ (k - 1) * 2
twice k h = let e : k ≡ k - 1 + 1 = omega arith in ap (λ (n : ℕ). 2 ^ n) e ∙ pow-add 2 (k - 1) 1

-- sign extension agrees with the two's complement reading
pub extended-signed : (k x : ℕ) → 1 ≤ k → k ≤ 20 → x < 2 ^ k → signed_of 20 (extended k x) ≡ signed_of k x
unfolding signed_of extended
extended-signed k x h₁ h₂ hx = go (dec_lt x (2 ^ (k - 1)))
  where
    most : 2 ^ k ≤ 1048576
    most = pow_mono h₂

    go : Dec (x < 2 ^ (k - 1)) → signed_of 20 (extended k x) ≡ signed_of k x
    go (yes h) =
        let small : x < 524288 = omega (arith, twice k h₁, most, h) in
        rw (lt-ltb x (2 ^ (k - 1)) h, lt-ltb x 524288 small)
    go (no h) =
        let big : 524288 ≤ x + (1048576 - 2 ^ k) = omega (arith, twice k h₁, most, h) in
        let large : 2 ^ (k - 1) ≤ x = omega (arith, h) in
        rw (le-ltb x (2 ^ (k - 1)) large, le-ltb (x + (1048576 - 2 ^ k)) 524288 big)
        (ap negsuc (omega (arith, most, hx)))

-- the numbers of k bits, their halves exchanged, less 2 ^ (k - 1), in 32 bits and then in 20, are extended
pub halves-extended : (k x y : ℕ) → 2 ^ (k - 1) ≤ 32768 → 2 ^ k ≡ 2 ^ (k - 1) * 2 → x < 2 ^ k
    → (x < 2 ^ (k - 1) → y ≡ x + 2 ^ (k - 1)) → (2 ^ (k - 1) ≤ x → y + 2 ^ (k - 1) ≡ x) → (y + (4294967296 - 2 ^ (k - 1))) % 4294967296 % 1048576 ≡ extended k x
unfolding extended
halves-extended k x y few double hx low high = by (dec_lt x (2 ^ (k - 1)))
  where
    by : Dec (x < 2 ^ (k - 1)) → (y + (4294967296 - 2 ^ (k - 1))) % 4294967296 % 1048576 ≡ pick (ltb x (2 ^ (k - 1))) x (x + (1048576 - 2 ^ k))
    by (yes h) = rw (lt-ltb x (2 ^ (k - 1)) h) (omega (arith, few, low h, h))
    by (no h) =
        let most : 2 ^ (k - 1) ≤ x = omega (arith, h) in
        rw (le-ltb x (2 ^ (k - 1)) most) (omega (arith, few, double, hx, high most))

-- an extended number is one of 20 bits
pub extended_lt : (k x : ℕ) → k ≤ 20 → x < 2 ^ k → extended k x < 1048576
unfolding extended
extended_lt k x h hx = go (ltb x (2 ^ (k - 1)))
  where
    go : (b : Bool) → pick b x (x + (1048576 - 2 ^ k)) < 1048576
    go true = omega (arith, pow_mono h)
    go false = omega (arith, pow_mono h)

-- a displacement of k bits moves a pointer by what it stands for: one of the upper half by 20 ones less the bits that it has not set, and so back
pub displaced-by : (pointer k x : ℕ) → k ≤ 20 → displaced_by pointer (signed_of k x) ≡ (pointer + pick (ltb x (2 ^ (k - 1))) x (1048575 - (2 ^ k - 1 - x))) % 1048576
unfolding signed_of displaced_by
displaced-by pointer k x h = go (ltb x (2 ^ (k - 1)))
  where
    go : (b : Bool) → displaced_by pointer (pick b (pos x) (negsuc (2 ^ k - 1 - x))) ≡ (pointer + pick b x (1048575 - (2 ^ k - 1 - x))) % 1048576
    go true = refl
    go false = ap (λ (n : ℕ). (pointer + (1048575 - n)) % 1048576) (mod-eq_of_lt (omega (arith, pow_mono {j = 20} h)))

-- which is the sum with the extended number
pub displaced-extended : (pointer k x : ℕ) → k ≤ 20 → x < 2 ^ k → displaced_by pointer (signed_of k x) ≡ (pointer + extended k x) % 1048576
unfolding extended
displaced-extended pointer k x h hx = displaced-by pointer k x h ∙ ap (λ (n : ℕ). (pointer + n) % 1048576) (go (ltb x (2 ^ (k - 1))))
  where
    most : 2 ^ k ≤ 1048576
    most = pow_mono h

    go : (b : Bool) → pick b x (1048575 - (2 ^ k - 1 - x)) ≡ pick b x (x + (1048576 - 2 ^ k))
    go true = refl
    go false = omega (arith, most, hx)
