-- The laws of digits and of the bytes that they write.
-- Assumes nothing.
use Prim.Native.Nat.{ℕ, zero, suc, ◌+◌, ◌-◌, ◌*◌, ◌<◌, ◌≤◌}
use borrow.Author.Tests.{ltb-true, leb-true, ne_eqb}
use lib.Dec.{ltb, leb, eqb, lit≤, lit<}
use lib.ListN.{length, get_or, take, drop}
use mathlib.Core.Bool.{Bool, true, false, ◌&&◌}
use mathlib.Core.List.{List, [], ◌∷◌, ◌++◌}
use mathlib.Core.Path.{◌≡◌, refl, sym, ap, ap₂, ◌∙◌}
use native.Mathlib.Nat.{not-suc-le-zero}
use native.Mathlib.Omega.{arith}
use Rattle.ground_rules.proofs.ChoiceLaws.{both_left, both_right}
use Rattle.ground_rules.specs.Choice.{pick}
use Rattle.prom_rules.specs.Records.{within, hex_value, all_hex, hex_byte, hex_bytes}

-- a choice between two that are bounded
pick-most : (t : Bool) (a b n : ℕ) → (t ≡ true → a ≤ n) → b ≤ n → pick t a b ≤ n
pick-most true a b n h k = h refl
pick-most false a b n h k = k

-- a byte within a range is at most its end
within-high : (low high b : ℕ) → within low high b ≡ true → b ≤ high
within-high low high b e = leb-true b high (both_right (leb low b) (leb b high) e)

-- no digit's value is over 16
pub digit-most : (b : ℕ) → hex_value b ≤ 16
unfolding hex_value
digit-most b =
    pick-most (within 48 57 b) _ _ 16 (λ e. omega (arith, within-high 48 57 b e))
    (pick-most (within 65 70 b) _ _ 16 (λ e. omega (arith, within-high 65 70 b e))
    (pick-most (within 97 102 b) _ _ 16 (λ e. omega (arith, within-high 97 102 b e)) (lit≤ tt)))

-- a byte whose value is none is no digit
pub no_digit : (b c : ℕ) → hex_value c ≡ 16 → ltb (hex_value b) 16 ≡ true → eqb b c ≡ false
no_digit b c n h = ne_eqb b c (λ e. let s : hex_value b ≡ 16 = ap hex_value e ∙ n in omega (arith, ltb-true (hex_value b) 16 h))

-- every byte of digits has a value
pub digit-below : (ds : List ℕ) (k : ℕ) → all_hex ds ≡ true → k < length ds → hex_value (get_or ds k 0) < 16
unfolding all_hex
digit-below [] k h i = absurd (not-suc-le-zero i)
digit-below (d ∷ ds) zero h i = ltb-true (hex_value d) 16 (both_left (ltb (hex_value d) 16) (all_hex ds) h)
digit-below (d ∷ ds) (suc k) h i =
    digit-below ds k (both_right (ltb (hex_value d) 16) (all_hex ds) h) (omega arith)

-- digits in a row are digits each
pub all_append : (a b : List ℕ) → all_hex (a ++ b) ≡ (all_hex a && all_hex b)
unfolding all_hex
all_append [] b = refl
all_append (d ∷ a) b = go (ltb (hex_value d) 16) (all_append a b)
  where
    go : (x : Bool) → all_hex (a ++ b) ≡ (all_hex a && all_hex b) → x && all_hex (a ++ b) ≡ ((x && all_hex a) && all_hex b)
    go true e = e
    go false e = refl

-- a part of digits is digits
pub all_drop : (k : ℕ) (ds : List ℕ) → all_hex ds ≡ true → all_hex (drop k ds) ≡ true
unfolding all_hex
all_drop zero ds h = h
all_drop (suc k) [] h = refl
all_drop (suc k) (d ∷ ds) h = all_drop k ds (both_right (ltb (hex_value d) 16) (all_hex ds) h)

pub all_take : (k : ℕ) (ds : List ℕ) → all_hex ds ≡ true → all_hex (take k ds) ≡ true
unfolding all_hex
all_take zero ds h = refl
all_take (suc k) [] h = refl
all_take (suc k) (d ∷ ds) h =
    rw (both_left (ltb (hex_value d) 16) (all_hex ds) h) (all_take k ds (both_right (ltb (hex_value d) 16) (all_hex ds) h))

-- a byte that digits write is a byte
pub byte-below : (ds : List ℕ) (k : ℕ) → all_hex ds ≡ true → get_or (hex_bytes ds) k 0 < 256
unfolding hex_bytes
byte-below [] k h = lit< tt
byte-below (a ∷ []) k h = lit< tt
byte-below (a ∷ b ∷ ds) zero h = omega (arith, digit-below (a ∷ b ∷ ds) 0 h (omega arith), digit-below (a ∷ b ∷ ds) 1 h (omega arith))
byte-below (a ∷ b ∷ ds) (suc k) h = byte-below ds k (all_drop 2 (a ∷ b ∷ ds) h)

-- the byte at a place is written by the two digits at twice the place
pub byte_at : (ds : List ℕ) (k j : ℕ) → j ≡ 2 * k → j + 1 < length ds → get_or (hex_bytes ds) k 0 ≡ hex_byte (get_or ds j 0) (get_or ds (j + 1) 0)
unfolding hex_bytes
byte_at [] k j e h = absurd (not-suc-le-zero h)
byte_at (a ∷ []) k j e h = absurd (omega arith)
byte_at (a ∷ b ∷ ds) zero j e h = let z : j ≡ 0 = omega arith in rw z
byte_at (a ∷ b ∷ ds) (suc k) j e h =
    let i : j ≡ suc (suc (j - 2)) = omega arith in
    let i' : j + 1 ≡ suc (suc (j - 2 + 1)) = omega arith in
    byte_at ds k (j - 2) (omega arith) (omega arith)
    ∙ ap₂ (λ (x y : ℕ). hex_byte (get_or (a ∷ b ∷ ds) x 0) (get_or (a ∷ b ∷ ds) y 0)) (sym i) (sym i')

-- so many digits write half as many bytes
pub byte-count : (ds : List ℕ) (n : ℕ) → length ds ≡ 2 * n → length (hex_bytes ds) ≡ n
unfolding hex_bytes
byte-count [] n e = omega arith
byte-count (a ∷ []) n e = absurd (omega arith)
byte-count (a ∷ b ∷ ds) zero e = absurd (omega arith)
byte-count (a ∷ b ∷ ds) (suc n) e = ap suc (byte-count ds n (omega arith))

-- bytes dropped are digits dropped, and so taken
pub bytes_drop : (k j : ℕ) (ds : List ℕ) → j ≡ 2 * k → drop k (hex_bytes ds) ≡ hex_bytes (drop j ds)
unfolding hex_bytes
bytes_drop zero j ds e = let z : j ≡ 0 = omega arith in rw z
bytes_drop (suc k) j [] e = let i : j ≡ suc (suc (j - 2)) = omega arith in rw i
bytes_drop (suc k) j (a ∷ []) e = let i : j ≡ suc (suc (j - 2)) = omega arith in rw i
bytes_drop (suc k) j (a ∷ b ∷ ds) e = let i : j ≡ suc (suc (j - 2)) = omega arith in rw i (bytes_drop k (j - 2) ds (omega arith))

pub bytes_take : (k j : ℕ) (ds : List ℕ) → j ≡ 2 * k → take k (hex_bytes ds) ≡ hex_bytes (take j ds)
unfolding hex_bytes
bytes_take zero j ds e = let z : j ≡ 0 = omega arith in rw z
bytes_take (suc k) j [] e = let i : j ≡ suc (suc (j - 2)) = omega arith in rw i
bytes_take (suc k) j (a ∷ []) e = let i : j ≡ suc (suc (j - 2)) = omega arith in rw i
bytes_take (suc k) j (a ∷ b ∷ ds) e =
    let i : j ≡ suc (suc (j - 2)) = omega arith in rw i (ap (λ (l : List ℕ). hex_byte a b ∷ l) (bytes_take k (j - 2) ds (omega arith)))
