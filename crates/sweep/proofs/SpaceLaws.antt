-- A block put elsewhere in both memories is one loop's work: within one buffer where source and destination lie in one space, from one buffer into the
-- other where they do not.
-- Assumes nothing.
use Prim.Native.Nat.{ℕ, zero, suc, ◌+◌, ◌<◌, ◌≤◌}
use borrow.Author.Tests.{leb-true}
use lib.ListN.{length, get_or, set, length-set}
use mathlib.Core.Bool.{Bool, true, false, not, ◌&&◌, ◌||◌}
use mathlib.Core.List.{List, [], ◌∷◌}
use mathlib.Core.Path.{◌≡◌, refl, ap, subst, ◌∙◌}
use native.Mathlib.Nat.{not-suc-le-zero, le_of_suc-le-suc}
use native.Mathlib.Omega.{arith}
use Rattle.ground_rules.specs.Buffers.{Buffers, buffers, space_of, limit_of, index_of, beyond_in, byte_at, store_byte, within_limits}
use Rattle.ground_rules.specs.Values.{pointer}
use Rattle.ground_rules.specs.declared.Pointer.{Pointer}
use Rattle.ground_rules.specs.Cc.{same_flag}
use Rattle.sweep_rules.proofs.PassedLaws.{length_most}
use Rattle.sweep_rules.proofs.RangeLaws.{index_on}
use Rattle.sweep_rules.specs.Copies.{copied_on}
use Rattle.sweep_rules.specs.Ranges.{place_of, range_lent}
use Rattle.sweep.specs.Loops.{shifted, laid}

-- what is read of a list below its end is the same whatever is read beyond
default : (l : List ℕ) (i d e : ℕ) → i < length l → get_or l i d ≡ get_or l i e
default [] i d e h = absurd (not-suc-le-zero h)
default (x ∷ xs) zero d e h = refl
default (x ∷ xs) (suc i) d e h = default xs i d e (le_of_suc-le-suc h)

shifted-length : (l : List ℕ) (from into n : ℕ) → length (shifted l from into n) ≡ length l
unfolding shifted
shifted-length l from into zero = refl
shifted-length l from into (suc n) = length-set (shifted l from into n) (into + n) (get_or (shifted l from into n) (from + n) 0) ∙ shifted-length l from into n

-- ---- a memory with another buffer in one of its spaces

unfoldable pub replaced : Buffers → Bool → List ℕ → Buffers
replaced m true l = buffers m.sys l
replaced m false l = buffers l m.io

replaced-none : (m : Buffers) (t : Bool) → m ≡ replaced m t (space_of m t)
unfolding replaced space_of
replaced-none m true = refl
replaced-none m false = refl

store-replaced : (m : Buffers) (t : Bool) (l : List ℕ) (a v : ℕ) → store_byte (replaced m t l) t a v ≡ replaced m t (set l (index_of t a) v)
unfolding replaced store_byte
store-replaced m true l a v = refl
store-replaced m false l a v = refl

read-replaced : (m : Buffers) (t : Bool) (l : List ℕ) (a : ℕ) → byte_at (replaced m t l) t a ≡ get_or l (index_of t a) (beyond_in t)
unfolding replaced byte_at space_of
read-replaced m true l a = refl
read-replaced m false l a = refl

read-beside : (m : Buffers) (t : Bool) (l : List ℕ) (a : ℕ) → byte_at (replaced m (not t) l) t a ≡ get_or (space_of m t) (index_of t a) (beyond_in t)
unfolding replaced byte_at space_of
read-beside m true l a = refl
read-beside m false l a = refl

-- ---- within one space, and from one into the other, byte by byte

module _ (m : Buffers) (t : Bool) (a b n : ℕ) (w : within_limits m ≡ true) where
  within-one : index_of t a + n ≤ length (space_of m t) → index_of t b + n ≤ length (space_of m t) → (j : ℕ) → j ≤ n
      → copied_on m (pointer a t) (pointer b t) j ≡ replaced m t (shifted (space_of m t) (index_of t a) (index_of t b) j)
  unfolding copied_on shifted
  within-one ha hb zero h = replaced-none m t
  within-one ha hb (suc j) h =
      let l = length (space_of m t) in
      let x = shifted (space_of m t) (index_of t a) (index_of t b) j in
      let most : l ≤ limit_of t = length_most m t w in
      let ea : index_of t (a + j) ≡ index_of t a + j = index_on t a j l (omega arith) most in
      let eb : index_of t (b + j) ≡ index_of t b + j = index_on t b j l (omega arith) most in
      let below : index_of t a + j < length x = omega (arith, shifted-length (space_of m t) (index_of t a) (index_of t b) j) in
      ap (λ (k : Buffers). store_byte k t (b + j) (byte_at k t (a + j))) (within-one ha hb j (omega arith))
      ∙ store-replaced m t x (b + j) (byte_at (replaced m t x) t (a + j))
      ∙ rw (read-replaced m t x (a + j), ea, eb, default x (index_of t a + j) (beyond_in t) 0 below)

  across-both : index_of t a + n ≤ length (space_of m t) → index_of (not t) b + n ≤ length (space_of m (not t)) → (j : ℕ) → j ≤ n
      → copied_on m (pointer a t) (pointer b (not t)) j
      ≡ replaced m (not t) (laid (space_of m t) (index_of t a) (space_of m (not t)) (index_of (not t) b) j)
  unfolding copied_on laid
  across-both ha hb zero h = replaced-none m (not t)
  across-both ha hb (suc j) h =
      let u = not t in
      let x = laid (space_of m t) (index_of t a) (space_of m u) (index_of u b) j in
      let ea : index_of t (a + j) ≡ index_of t a + j = index_on t a j (length (space_of m t)) (omega arith) (length_most m t w) in
      let eb : index_of u (b + j) ≡ index_of u b + j = index_on u b j (length (space_of m u)) (omega arith) (length_most m u w) in
      ap (λ (k : Buffers). store_byte k u (b + j) (byte_at k t (a + j))) (across-both ha hb j (omega arith))
      ∙ store-replaced m u x (b + j) (byte_at (replaced m u x) t (a + j))
      ∙ rw (read-beside m t x (a + j), ea, eb, default (space_of m t) (index_of t a + j) (beyond_in t) 0 (omega arith))

-- ---- by pointers

-- the buffer that a lent range lies in is as long as its end
pub range-in : (m : Buffers) (p : Pointer) (n : ℕ) (t : Bool) → p.tag ≡ t → range_lent m p n ≡ true → place_of p + n ≤ length (space_of m t)
unfolding range_lent
range-in m p n t e h = subst (λ (u : Bool). place_of p + n ≤ length (space_of m u)) e (leb-true (place_of p + n) (length (space_of m p.tag)) h)

module _ (m : Buffers) (p q : Pointer) (n : ℕ) (w : within_limits m ≡ true) (lp : range_lent m p n ≡ true) (lq : range_lent m q n ≡ true) where
  pub copied-within : (t : Bool) → p.tag ≡ t → q.tag ≡ t
      → copied_on m p q n ≡ replaced m t (shifted (space_of m t) (place_of p) (place_of q) n)
  copied-within t e f = go t p.tag q.tag e f (range-in m p n t e lp) (range-in m q n t f lq)
    where
      go : (t x y : Bool) → x ≡ t → y ≡ t → index_of x p.address + n ≤ length (space_of m t) → index_of y q.address + n ≤ length (space_of m t)
          → copied_on m (pointer p.address x) (pointer q.address y) n
          ≡ replaced m t (shifted (space_of m t) (index_of x p.address) (index_of y q.address) n)
      go t x y e f hp hq = rw (e, f) (within-one m t p.address q.address n w (rw e at hp) (rw f at hq) n (omega arith))

  pub copied-across : (t : Bool) → p.tag ≡ t → q.tag ≡ not t
      → copied_on m p q n ≡ replaced m (not t) (laid (space_of m t) (place_of p) (space_of m (not t)) (place_of q) n)
  copied-across t e f = go t p.tag q.tag e f (range-in m p n t e lp) (range-in m q n (not t) f lq)
    where
      go : (t x y : Bool) → x ≡ t → y ≡ not t → index_of x p.address + n ≤ length (space_of m t) → index_of y q.address + n ≤ length (space_of m (not t))
          → copied_on m (pointer p.address x) (pointer q.address y) n
          ≡ replaced m (not t) (laid (space_of m t) (index_of x p.address) (space_of m (not t)) (index_of y q.address) n)
      go t x y e f hp hq = rw (e, f) (across-both m t p.address q.address n w (rw e at hp) (rw f at hq) n (omega arith))

-- two flags are the same by their tests
pub same_bits : (a b : Bool) → (a && b) || (not a && not b) ≡ same_flag a b
unfolding same_flag
same_bits true true = refl
same_bits true false = refl
same_bits false true = refl
same_bits false false = refl
