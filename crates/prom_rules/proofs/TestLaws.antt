-- What each test tells of the condition that it refuses.
-- Assumes nothing.
use Prim.Native.Nat.{ℕ, ◌+◌, ◌-◌, ◌*◌, ◌%◌, ◌≤◌}
use borrow.Author.Tests.{leb-true, eqb-true, eqb-false, lt-ltb, le-leb, ne_eqb}
use lib.Dec.{ltb, leb, eqb}
use lib.ListN.{length, get_or}
use mathlib.Core.Bool.{Bool, true, false}
use mathlib.Core.List.{List, [], ◌∷◌}
use mathlib.Core.Logic.{⊎_elim, inl, inr, ◌↔◌}
use mathlib.Core.Path.{◌≡◌, refl, sym, subst, ◌∙◌}
use native.Mathlib.Decide.{ℕ_discrete}
use native.Mathlib.Omega.{arith}
use Rattle.ground_rules.proofs.ChoiceLaws.{apart, both_left, both_right, or-false}
use Rattle.ground_rules.proofs.ConditionLaws.{Told, picked, worded, told_and, told-eqb}
use Rattle.ground_rules.specs.Choice.{pick}
use Rattle.ground_rules.specs.Conditions.{Given, Exactly}
use Rattle.prom_rules.specs.Conditions.{Hexadecimal, SomeOther, NoColon, NotRecord, WrongSum, WrongType, Unfit, line_checks}
use Rattle.prom_rules.specs.Records.{within, hex_value, all_hex, digits_of, record_of, hex_size, type_of, sum_of, is_record, sums_to_zero, fits_type, line_refusal}

-- ---- 20

hexadecimal : (b : ℕ) → Told (ltb (hex_value b) 16) (¬ (Hexadecimal b))
unfolding hex_value
hexadecimal b = go (within 48 57 b) (within 65 70 b) (within 97 102 b) refl refl refl
  where
    range : (low high : ℕ) → within low high b ≡ true → (low ≤ b) × (b ≤ high)
    range low high e = (leb-true low b (both_left (leb low b) (leb b high) e), leb-true b high (both_right (leb low b) (leb b high) e))

    outside : (low high : ℕ) → within low high b ≡ false → (low ≤ b) × (b ≤ high) → ⊥
    outside low high e h = apart (sym (rw (le-leb low b h.0, le-leb b high h.1) refl) ∙ e)

    yes-digit : {x : Bool} → x ≡ true → Hexadecimal b → Told x (¬ (Hexadecimal b))
    yes-digit e h = record { holds = λ z n. n h; fails = λ z. apart (sym e ∙ z) }

    go : (x y z : Bool) → within 48 57 b ≡ x → within 65 70 b ≡ y → within 97 102 b ≡ z
        → Told (ltb (pick x (b - 48) (pick y (b - 55) (pick z (b - 87) 16))) 16) (¬ (Hexadecimal b))
    go true y z p q r = yes-digit (lt-ltb (b - 48) 16 (omega (arith, range 48 57 p))) (inl (range 48 57 p))
    go false true z p q r = yes-digit (lt-ltb (b - 55) 16 (omega (arith, range 65 70 q))) (inr (inl (range 65 70 q)))
    go false false true p q r = yes-digit (lt-ltb (b - 87) 16 (omega (arith, range 97 102 r))) (inr (inr (range 97 102 r)))
    go false false false p q r = record {
      holds = λ e. apart (sym e);
      fails = λ e. ⊎_elim (outside 48 57 p) (⊎_elim (outside 65 70 q) (outside 97 102 r));
    }

all_digits : (ds : List ℕ) → Told (all_hex ds) (SomeOther ds)
unfolding all_hex
all_digits [] = record { holds = λ e h. h; fails = λ e. apart e }
all_digits (b ∷ bs) = told_and (hexadecimal b) (all_digits bs)

colon : (line : List ℕ) → Told (eqb (get_or line 0 0) 58) (NoColon line)
colon [] = record { holds = λ e. apart (sym e); fails = λ e. tt }
colon (b ∷ bs) = told-eqb b 58

pub record-test : (line : List ℕ) → Told (is_record line) (NotRecord line)
unfolding is_record
record-test line =
    told_and (colon line) (told_and (all_digits (digits_of line)) (told-eqb (length (digits_of line)) (2 * (hex_size (record_of line) + 5))))

-- ---- 21 and 22

pub sum-test : (line : List ℕ) → Told (sums_to_zero (record_of line)) (WrongSum line)
unfolding sums_to_zero
sum-test line = told-eqb (sum_of (record_of line) % 256) 0

-- a known type asks for one length
asks : (k n size : ℕ) (x : Bool) → x ≡ eqb size n → (Unfit k size → ¬ (size ≡ n)) → (¬ (size ≡ n) → Unfit k size) → Told x (Unfit k size)
asks k n size x e f g = record { holds = λ z h. f h (eqb-true size n (sym e ∙ z)); fails = λ z. g (eqb-false size n (sym e ∙ z)) }

-- the condition of 22 by its four parts
parts : {k size : ℕ} {B : Type 0} → (4 ≤ k → B) → ((k ≡ 1) × ¬ (size ≡ 0) → B) → ((k ≡ 2) × ¬ (size ≡ 2) → B) → ((k ≡ 3) × ¬ (size ≡ 4) → B) → Unfit k size → B
parts f g h i = ⊎_elim f (⊎_elim g (⊎_elim h i))

type-test : (kind size : ℕ) → Told (fits_type kind size) (Unfit kind size)
unfolding fits_type
type-test kind size = go (ℕ_discrete kind 0) (ℕ_discrete kind 1) (ℕ_discrete kind 2) (ℕ_discrete kind 3)
  where
    by : (k : ℕ) → kind ≡ k → Told (fits_type k size) (Unfit k size) → Told (fits_type kind size) (Unfit kind size)
    by k e = subst (λ (n : ℕ). Told (fits_type n size) (Unfit n size)) (sym e)

    go : Dec (kind ≡ 0) → Dec (kind ≡ 1) → Dec (kind ≡ 2) → Dec (kind ≡ 3) → Told (fits_type kind size) (Unfit kind size)
    go (yes e) q r s =
        by 0 e record {
          holds = λ z. parts (λ h. omega (arith, h)) (λ h. omega (arith, h.0)) (λ h. omega (arith, h.0)) (λ h. omega (arith, h.0));
          fails = λ z. apart z;
        }
    go (no p) (yes e) r s =
        by 1 e
        (asks 1 0 size (fits_type 1 size) (or-false (eqb size 0))
        (parts (λ h. absurd (omega (arith, h))) (λ h. h.1) (λ h. absurd (omega (arith, h.0))) (λ h. absurd (omega (arith, h.0))))
        (λ h. inr (inl (refl, h))))
    go (no p) (no q) (yes e) s =
        by 2 e
        (asks 2 2 size (fits_type 2 size) (or-false (eqb size 2))
        (parts (λ h. absurd (omega (arith, h))) (λ h. absurd (omega (arith, h.0))) (λ h. h.1) (λ h. absurd (omega (arith, h.0))))
        (λ h. inr (inr (inl (refl, h)))))
    go (no p) (no q) (no r) (yes e) =
        by 3 e
        (asks 3 4 size (fits_type 3 size) refl
        (parts (λ h. absurd (omega (arith, h))) (λ h. absurd (omega (arith, h.0))) (λ h. absurd (omega (arith, h.0))) (λ h. h.1))
        (λ h. inr (inr (inr (refl, h)))))
    go (no p) (no q) (no r) (no s) =
        rw (ne_eqb kind 0 p, ne_eqb kind 1 q, ne_eqb kind 2 r, ne_eqb kind 3 s)
        record { holds = λ z. apart (sym z); fails = λ z. inl (omega arith) }

-- ---- the number of a line

-- the number is that of the first check that applies, and 0 where none does
pub line-given : (line : List ℕ) (n : ℕ) → (line_refusal line ≡ n) ↔ Given (line_checks line) n
unfolding line_refusal
line-given line n = picked 20 (record-test line) (picked 21 (sum-test line) (picked 22 (type-test (type_of (record_of line)) (hex_size (record_of line))) (sym, sym)))

-- in words: 20 of no record, 21 of one whose sum is wrong, 22 where only its type or length is, 0 of a good record
pub line-exactly : (line : List ℕ) (n : ℕ) → (line_refusal line ≡ n) ↔ Exactly (line_checks line) n
line-exactly line n = worded (line_checks line) n (line-given line n)

-- each of the three numbers in words of its own: a list of checks in another order, or with another condition, is refused here
pub line-words : (line : List ℕ) → ((line_refusal line ≡ 20) ↔ NotRecord line)
    × ((line_refusal line ≡ 21) ↔ (¬ (NotRecord line) × WrongSum line))
    × ((line_refusal line ≡ 22) ↔ (¬ (NotRecord line) × (¬ (WrongSum line) × WrongType line)))
line-words line = (line-exactly line 20, line-exactly line 21, line-exactly line 22)
