-- The laws of bytes that are written or digested, one byte at a time.
-- Assumes nothing.
use mathlib.Core.List.{List, [], ◌∷◌}
use mathlib.Core.Path.{◌≡◌, refl, ap, ap₂, ◌∙◌}
use Prim.Native.Nat.{ℕ, ◌+◌, ◌*◌, ◌≤◌, ◌<◌}
use native.Mathlib.Omega.{arith}
use Rattle.std.proofs.Common.{◌⊎◌, inl, inr, unwrap_or, ◌%◌}
use Rattle.std.proofs.lemmas.Bool.{cases_lt}
use borrow.Author.Tests.{lt-ltb, le-ltb}
use Rattle.script_text.specs.Text.{digit_of, digit_told}
use lib.ListN.{length, drop, get_or, set}
use Rattle.std.specs.List.{fold}
use Rattle.script_text.specs.Buffers.{byte_of, bytes_written, digest_byte, digest_from}
use Rattle.script_text.proofs.TextLaws.{from-here, digit_most}

-- a digest is a fold
pub digest_fold : (d : ℕ) (s : List ℕ) → digest_from d s ≡ fold (λ d b. digest_byte d b) d s
unfolding digest_from
digest_fold d [] = refl
digest_fold d (b ∷ s) = digest_fold (digest_byte d b) s

module _ (s : List ℕ) (at : ℕ) (digits : List ℕ) (i : ℕ) where
  -- two digits write a byte, and leave the rest to be written behind it
  pub written_next : 2 * i + 1 < length digits
      → bytes_written s (at + i) (drop (2 * i) digits)
      ≡ bytes_written (set s (at + i) (byte_of (get_or digits (2 * i) 0) (get_or digits (2 * i + 1) 0))) (at + (i + 1)) (drop (2 * (i + 1)) digits)
  unfolding bytes_written
  written_next h =
      let low : 2 * i < length digits = omega arith in
      let two : 2 * i + 1 + 1 ≡ 2 * (i + 1) = omega arith in
      let next : at + i + 1 ≡ at + (i + 1) = omega arith in
      ap (bytes_written s (at + i)) (from-here digits (2 * i) low ∙ ap (λ (l : List ℕ). get_or digits (2 * i) 0 ∷ l) (from-here digits (2 * i + 1) h))
      ∙ ap₂ (λ (k l : ℕ). bytes_written (set s (at + i) (byte_of (get_or digits (2 * i) 0) (get_or digits (2 * i + 1) 0))) k (drop l digits)) next two

-- where less than two digits are left nothing more is written
pub written-end : (s : List ℕ) (at : ℕ) (digits : List ℕ) → length digits ≤ 1 → bytes_written s at digits ≡ s
unfolding bytes_written
written-end s at [] h = refl
written-end s at (d ∷ []) h = refl
written-end s at (high ∷ low ∷ digits) h = absurd (omega arith)

-- what a digit that is none stands for in a byte
pub digit_or_zero : (b : ℕ) → unwrap_or (digit_told b) 0 ≡ digit_of b % 16
digit_or_zero b = go (cases_lt (digit_of b) 16)
  where
    go : (digit_of b < 16) ⊎ (16 ≤ digit_of b) → unwrap_or (digit_told b) 0 ≡ digit_of b % 16
    go (inl h) = rw (lt-ltb (digit_of b) 16 h) (omega arith)
    go (inr h) =
        let none : digit_of b ≡ 16 = omega (arith, digit_most b) in
        rw (le-ltb (digit_of b) 16 h, none)
