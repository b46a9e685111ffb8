-- The laws of a record: a line that is none, what a good one is, and the lengths that fit its type.
-- Assumes nothing.
use Prim.Native.Nat.{ℕ, ◌+◌, ◌*◌}
use borrow.Author.Tests.{eqb-true}
use lib.Dec.{eqb}
use lib.ListN.{length, get_or}
use mathlib.Core.Bool.{Bool, true, false, ◌&&◌}
use mathlib.Core.List.{List}
use mathlib.Core.Path.{◌≡◌, refl, sym, ◌∙◌}
use native.Mathlib.Omega.{arith}
use Rattle.ground_rules.proofs.ChoiceLaws.{both_left, both_right, or-false}
use Rattle.ground_rules.specs.Choice.{pick}
use Rattle.prom_rules.specs.Records.{all_hex, digits_of, record_of, hex_size, is_record, sums_to_zero, fits_type, type_of, line_refusal}

-- a line that is no record has 20
pub not-record : (line : List ℕ) → is_record line ≡ false → line_refusal line ≡ 20
unfolding line_refusal
not-record line e = rw e

-- what a good line is
pub record Good (line : List ℕ) : Type 0 where
  pub colon : get_or line 0 0 ≡ 58
  pub digits : all_hex (digits_of line) ≡ true
  pub count : length (digits_of line) ≡ 2 * (hex_size (record_of line) + 5)
  pub sums : sums_to_zero (record_of line) ≡ true
  pub known : fits_type (type_of (record_of line)) (hex_size (record_of line)) ≡ true

pub good : (line : List ℕ) → line_refusal line ≡ 0 → Good line
unfolding line_refusal is_record
good line e = go (is_record line) (sums_to_zero (record_of line)) (fits_type (type_of (record_of line)) (hex_size (record_of line))) refl refl refl e
  where
    same : Bool
    same = eqb (length (digits_of line)) (2 * (hex_size (record_of line) + 5))

    go : (x y z : Bool) → is_record line ≡ x → sums_to_zero (record_of line) ≡ y → fits_type (type_of (record_of line)) (hex_size (record_of line)) ≡ z
        → ◌≡◌ {A = ℕ} (pick x (pick y (pick z 0 22) 21) 20) 0 → Good line
    go true true true p q s e =
        let rest = both_right (eqb (get_or line 0 0) 58) (all_hex (digits_of line) && same) p in record {
          colon = eqb-true (get_or line 0 0) 58 (both_left (eqb (get_or line 0 0) 58) (all_hex (digits_of line) && same) p);
          digits = both_left (all_hex (digits_of line)) same rest;
          count = eqb-true (length (digits_of line)) (2 * (hex_size (record_of line) + 5)) (both_right (all_hex (digits_of line)) same rest);
          sums = q;
          known = s;
        }
    go true true false p q s e = absurd (omega arith)
    go true false z p q s e = absurd (omega arith)
    go false y z p q s e = absurd (omega arith)

-- a length that fits its type
pub fits-two : (kind size : ℕ) → kind ≡ 2 → fits_type kind size ≡ true → size ≡ 2
unfolding fits_type
fits-two kind size e h = eqb-true size 2 (sym (or-false (eqb size 2)) ∙ (rw e at h))

pub fits-four : (kind size : ℕ) → kind ≡ 3 → fits_type kind size ≡ true → size ≡ 4
unfolding fits_type
fits-four kind size e h = eqb-true size 4 (rw e at h)
