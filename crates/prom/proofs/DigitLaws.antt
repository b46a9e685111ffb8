-- The laws of a byte that two digits write.
-- Assumes nothing.
use Prim.Native.Nat.{ℕ, ◌+◌, ◌*◌, ◌<◌, ◌≤◌}
use borrow.Author.Tests.{lt-ltb, ltb-true}
use lib.Dec.{ltb}
use lib.ListN.{length, get_or, get_or-eq_default}
use mathlib.Core.Bool.{Bool, true, false}
use mathlib.Core.List.{List}
use mathlib.Core.Path.{◌≡◌, refl, sym, ap, ◌∙◌}
use native.Mathlib.Omega.{arith}
use Rattle.std.specs.Prelude.{Option, Some, None}
use Rattle.ground_rules.specs.Choice.{pick}
use Rattle.prom_rules.specs.Records.{hex_value, hex_byte, all_hex, hex_bytes}
use Rattle.prom_rules.proofs.DigitLaws.{byte_at, digit-below}
use Rattle.prom.specs.Parts.{hex_digit, byte_in}

-- beyond the end there is no digit
past : (t : List ℕ) (i : ℕ) → length t ≤ i → ltb (hex_value (get_or t i 0)) 16 ≡ false
unfolding hex_value
past t i h = ap (λ (b : ℕ). ltb (hex_value b) 16) (get_or-eq_default t 0 h)

-- a digit's value
pub digit-value : (b v : ℕ) → Some v ≡ hex_digit b → (ltb (hex_value b) 16 ≡ true) × (v ≡ hex_value b) × (v < 16)
unfolding hex_digit
digit-value b v e = go (ltb (hex_value b) 16) refl e
  where
    go : (x : Bool) → ltb (hex_value b) 16 ≡ x → Some v ≡ pick x (Some (hex_value b)) None → (ltb (hex_value b) 16 ≡ true) × (v ≡ hex_value b) × (v < 16)
    go true h e = let s : ◌≡◌ {A = Option ℕ} (Some v) (Some (hex_value b)) = e in let k : v ≡ hex_value b = cc in (h, k, omega (arith, ltb-true (hex_value b) 16 h, k))
    go false h e = let s : ◌≡◌ {A = Option ℕ} (Some v) None = e in absurd (cc)

pub digit-none : (b : ℕ) → None ≡ hex_digit b → ltb (hex_value b) 16 ≡ false
unfolding hex_digit
digit-none b e = go (ltb (hex_value b) 16) refl e
  where
    go : (x : Bool) → ltb (hex_value b) 16 ≡ x → None ≡ pick x (Some (hex_value b)) None → ltb (hex_value b) 16 ≡ false
    go true h e = let s : ◌≡◌ {A = Option ℕ} None (Some (hex_value b)) = e in absurd (cc)
    go false h e = h

module _ (t : List ℕ) (i : ℕ) where
  pub byte-past : length t ≤ i → None ≡ byte_in t i
  unfolding byte_in
  byte-past h = rw (past t i h) refl

  pub byte-high : ltb (hex_value (get_or t i 0)) 16 ≡ false → None ≡ byte_in t i
  unfolding byte_in
  byte-high h = rw h refl

  module _ (h : ltb (hex_value (get_or t i 0)) 16 ≡ true) where
    pub byte-half : length t ≤ i + 1 → None ≡ byte_in t i
    unfolding byte_in
    byte-half k = rw (h, past t (i + 1) k) refl

    pub byte-low : ltb (hex_value (get_or t (i + 1) 0)) 16 ≡ false → None ≡ byte_in t i
    unfolding byte_in
    byte-low k = rw (h, k) refl

    pub byte-some : ltb (hex_value (get_or t (i + 1) 0)) 16 ≡ true → Some (hex_byte (get_or t i 0) (get_or t (i + 1) 0)) ≡ byte_in t i
    unfolding byte_in
    byte-some k = rw (h, k) refl

-- a byte of digits
pub byte-of : (ds : List ℕ) (k j : ℕ) → all_hex ds ≡ true → j ≡ k * 2 → j + 1 < length ds → byte_in ds j ≡ Some (get_or (hex_bytes ds) k 0)
byte-of ds k j h q i =
    sym (byte-some ds j (lt-ltb (hex_value (get_or ds j 0)) 16 (digit-below ds j h (omega (arith, i)))) (lt-ltb (hex_value (get_or ds (j + 1) 0)) 16 (digit-below ds (j + 1) h i)))
    ∙ ap (λ (v : ℕ). Some v) (sym (byte_at ds k j (omega (arith, q)) i))
