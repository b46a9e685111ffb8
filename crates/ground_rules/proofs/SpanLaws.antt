-- The laws of bytes in a row: each of them passes a test where all do, two comparisons of lengths tell, and which of them a call may touch.
-- Assumes nothing.
use Prim.Native.Nat.{ℕ, zero, suc, ◌+◌, ◌-◌, ◌<◌, ◌≤◌}
use borrow.Author.Tests.{lt-ltb, le-ltb, le-leb, lt-leb}
use lib.Dec.{ltb, leb}
use lib.ListN.{length}
use mathlib.Core.Bool.{and_assoc, Bool, true, false, ◌&&◌, ◌||◌}
use mathlib.Core.List.{List, [], ◌∷◌, ◌++◌}
use mathlib.Core.Path.{◌≡◌, refl, sym, ap, ap₂, subst, ◌∙◌}
use native.Mathlib.Decide.{dec_lt}
use native.Mathlib.Nat.{add-zero, lt_of_lt_of_le, not-suc-le-zero, le_of_suc-le-suc}
use native.Mathlib.Numerals.{add-one}
use native.Mathlib.Omega.{arith}
use Rattle.ground_rules.proofs.ChoiceLaws.{both_left, both_right, and-true, or-true, or-false}
use Rattle.ground_rules.specs.Buffers.{Buffers, space_of, limit_of, index_of, lent_at}
use Rattle.ground_rules.specs.Places.{Place, span, all_pass, all_lent, all_touchable, Apart, ApartFrom}
use Rattle.ground_rules.proofs.PlaceLaws.{index-lt, index-next}
use Rattle.ground_rules.proofs.StoreLaws.{system-touchable, io-touchable}

-- where a span passes a test, each of its bytes does
pub span-at : (test : Bool → ℕ → Bool) (t : Bool) (a n k : ℕ) → all_pass test (span t a n) ≡ true → k < n → test t (a + k) ≡ true
unfolding span all_pass
span-at test t a zero k h hk = absurd (not-suc-le-zero hk)
span-at test t a (suc n) zero h hk = rw add-zero (both_left (test t a) (all_pass test (span t (a + 1) n)) h)
span-at test t a (suc n) (suc k) h hk =
    let e : a + 1 + k ≡ a + suc k = omega arith in
    subst (λ (b : ℕ). test t b ≡ true) e (span-at test t (a + 1) n k (both_right (test t a) (all_pass test (span t (a + 1) n)) h) (le_of_suc-le-suc hk))

-- the first of them too
pub span-first : (test : Bool → ℕ → Bool) (t : Bool) (a n : ℕ) → all_pass test (span t a n) ≡ true → 0 < n → test t a ≡ true
span-first test t a n h hn = rw add-zero at (span-at test t a n 0 h hn)

-- bytes in a row are as many as they are
pub span-length : (t : Bool) (a k : ℕ) → length (span t a k) ≡ k
unfolding span
span-length t a zero = refl
span-length t a (suc k) = ap suc (span-length t (a + 1) k)

-- two lists pass a test where each does
pub all_append : (test : Bool → ℕ → Bool) (ps qs : List Place) → all_pass test (ps ++ qs) ≡ (all_pass test ps && all_pass test qs)
unfolding all_pass
all_append test [] qs = refl
all_append test (p ∷ ps) qs =
    ap (λ (b : Bool). test p.tag p.address && b) (all_append test ps qs)
    ∙ sym (and_assoc (test p.tag p.address) (all_pass test ps) (all_pass test qs))

-- a byte that is none of two lists is none of the second
pub apart-right : (ps qs : List Place) (u : Bool) (b : ℕ) → ApartFrom (ps ++ qs) u b → ApartFrom qs u b
apart-right [] qs u b h = h
apart-right (p ∷ ps) qs u b h = apart-right ps qs u b h.1

-- a byte that is none of a span is none of its bytes
pub apart-at : (u : Bool) (a n k : ℕ) (t : Bool) (b : ℕ) → ApartFrom (span u a n) t b → k < n → Apart u (a + k) t b
unfolding span
apart-at u a zero k t b h hk = absurd (not-suc-le-zero hk)
apart-at u a (suc n) zero t b h hk = rw add-zero h.0
apart-at u a (suc n) (suc k) t b h hk =
    let e : a + 1 + k ≡ a + suc k = omega arith in
    subst (λ (x : ℕ). Apart u x t b) e (apart-at u (a + 1) n k t b h.1 (le_of_suc-le-suc hk))

-- of a span of system space a call may touch what is lent
pub span-system : (m : Buffers) (a n : ℕ) → all_touchable m (span false a n) ≡ all_lent m (span false a n)
unfolding span all_pass
span-system m a zero = refl
span-system m a (suc n) = ap₂ ◌&&◌ (system-touchable m a) (span-system m (a + 1) n)

-- and every span of I/O space
pub span-io : (m : Buffers) (a n : ℕ) → all_touchable m (span true a n) ≡ true
unfolding span all_pass
span-io m a zero = refl
span-io m a (suc n) = ap₂ ◌&&◌ (io-touchable m a) (span-io m (a + 1) n)

-- in a whole space every span is lent
pub span-whole : (m : Buffers) (t : Bool) (a n : ℕ) → limit_of t ≤ length (space_of m t) → all_lent m (span t a n) ≡ true
unfolding span all_pass lent_at
span-whole m t a zero h = refl
span-whole m t a (suc n) h =
    ap₂ ◌&&◌ (lt-ltb (index_of t a) (length (space_of m t)) (lt_of_lt_of_le (index-lt t a) h)) (span-whole m t (a + 1) n h)

-- short of that, a span is lent where its end is
pub span-part : (m : Buffers) (t : Bool) (a n : ℕ) → length (space_of m t) < limit_of t
    → all_lent m (span t a (suc n)) ≡ leb (index_of t a + suc n) (length (space_of m t))
unfolding span all_pass lent_at
span-part m t a zero h = and-true (ltb (index_of t a) (length (space_of m t))) ∙ ap (λ (n : ℕ). leb n (length (space_of m t))) (sym (add-one (index_of t a)))
span-part m t a (suc n) h = step (dec_lt (index_of t a) (length (space_of m t))) (span-part m t (a + 1) n h)
  where
    l : ℕ
    l = length (space_of m t)

    step : Dec (index_of t a < l) → all_lent m (span t (a + 1) (suc n)) ≡ leb (index_of t (a + 1) + suc n) l
        → ltb (index_of t a) l && all_lent m (span t (a + 1) (suc n)) ≡ leb (index_of t a + suc (suc n)) l
    step (yes q) rest =
        let e : index_of t a + 1 + suc n ≡ index_of t a + suc (suc n) = omega arith in
        rw (lt-ltb (index_of t a) l q) (rest ∙ ap (λ (i : ℕ). leb (i + suc n) l) (index-next t a l q h) ∙ ap (λ (i : ℕ). leb i l) e)
    step (no q) rest = rw (le-ltb (index_of t a) l (omega arith)) (sym (lt-leb (index_of t a + suc (suc n)) l (omega arith)))

-- so two comparisons of lengths tell whether a span that is not empty is lent
pub span-tests : (m : Buffers) (t : Bool) (a n : ℕ) → (n ≡ 0 → ⊥)
    → leb (index_of t a + n) (length (space_of m t)) || leb (limit_of t) (length (space_of m t)) ≡ all_lent m (span t a n)
span-tests m t a n ne =
    subst (λ (k : ℕ). leb (index_of t a + k) l || leb (limit_of t) l ≡ all_lent m (span t a k)) back (go (dec_lt l (limit_of t)))
  where
    l : ℕ
    l = length (space_of m t)

    back : suc (n - 1) ≡ n
    back = omega arith

    go : Dec (l < limit_of t) → leb (index_of t a + suc (n - 1)) l || leb (limit_of t) l ≡ all_lent m (span t a (suc (n - 1)))
    go (yes q) = rw (lt-leb (limit_of t) l q) (or-false (leb (index_of t a + suc (n - 1)) l) ∙ sym (span-part m t a (n - 1) q))
    go (no q) =
        let whole : limit_of t ≤ l = omega arith in
        rw (le-leb (limit_of t) l whole, span-whole m t a (suc (n - 1)) whole) (or-true (leb (index_of t a + suc (n - 1)) l))
