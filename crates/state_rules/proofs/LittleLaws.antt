-- Numbers in bytes, little end first, each law once over the width: what was put is read back, and what was read is put back.
-- Assumes nothing.
use Prim.Native.Nat.{ℕ, zero, suc, ◌+◌, ◌*◌, ◌/◌, ◌%◌, ◌^◌, ◌<◌, ◌≤◌}
use lib.ListN.{length, get_or, take, drop}
use lib.Seq.{drop-cons, get_or-append-add}
use mathlib.Core.List.{List, [], ◌∷◌, ◌++◌}
use mathlib.Core.Path.{◌≡◌, refl, sym, ap, ap₂, ◌∙◌}
use native.Mathlib.Nat.{add_assoc, mul-add-mod_self_right, div-div-eq-div-mul}
use native.Mathlib.Numerals.{add-one}
use native.Mathlib.Omega.{arith}
use Rattle.state_rules.specs.Conditions.{Bytes}
use Rattle.state_rules.specs.Fields.{little_end, little_in}

-- four bytes are two halves of two
pub halves : (v : ℕ) → little_end 2 (v % 65536) ++ little_end 2 (v / 65536) ≡ little_end 4 v
unfolding little_end
halves v =
    let a : v % 65536 % 256 ≡ v % 256 = omega arith in
    let e : v / 256 ≡ v / 65536 * 256 + v % 65536 / 256 = omega arith in
    let b : v % 65536 / 256 % 256 ≡ v / 256 % 256 = sym (ap (λ (n : ℕ). n % 256) e ∙ mul-add-mod_self_right (v / 65536) 256 (v % 65536 / 256)) in
    rw (a, b, div-div-eq-div-mul v 256 256)

-- what stands before a number does not matter
pub little-behind : (width : ℕ) (xs b : List ℕ) (at : ℕ) → little_in width (xs ++ b) (length xs + at) ≡ little_in width b at
unfolding little_in
little-behind zero xs b at = refl
little-behind (suc width) xs b at =
    ap₂ (λ (x y : ℕ). x + 256 * y) (get_or-append-add xs b at 0)
    (ap (little_in width (xs ++ b)) (add_assoc (length xs) at 1) ∙ little-behind width xs b (at + 1))

-- a number that fits its width is read back from its bytes
pub little-back : (width n : ℕ) (rest : List ℕ) → n < 256 ^ width → little_in width (little_end width n ++ rest) 0 ≡ n
unfolding little_in little_end
little-back zero n rest h = omega arith
little-back (suc width) n rest h =
    let small : n / 256 < 256 ^ width = omega arith in
    ap (λ (x : ℕ). n % 256 + 256 * x) (little-behind width (n % 256 ∷ []) (little_end width (n / 256) ++ rest) 0 ∙ little-back width (n / 256) rest small)
    ∙ omega arith

-- the bytes of a number that was read are those that it was read from
pub little-forth : (width : ℕ) (b : List ℕ) (at : ℕ) → Bytes b → at + width ≤ length b → little_end width (little_in width b at) ≡ take width (drop at b)
unfolding little_in little_end
little-forth zero b at byte h = refl
little-forth (suc width) b at byte h =
    let k = little_in width b (at + 1) in
    let low : (get_or b at 0 + 256 * k) % 256 ≡ get_or b at 0 = omega (arith, byte at) in
    let high : (get_or b at 0 + 256 * k) / 256 ≡ k = omega (arith, byte at) in
    let inside : at < length b = omega arith in
    rw (low, high, drop-cons b at 0 inside, ← (add-one at))
    (ap (λ (l : List ℕ). get_or b at 0 ∷ l) (little-forth width b (at + 1) byte (omega arith)))
