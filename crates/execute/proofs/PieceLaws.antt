-- The laws of bytes that are read at once: those in one piece are those of the buffer, and those that go over its end are its last and then what lies behind.
-- Assumes nothing.
use Rattle.std.proofs.Common.{◌≡◌, ℕ, zero, suc, ◌+◌, ◌-◌, ◌*◌, ◌<◌, ◌≤◌, Bool, true, false, ◌&&◌, ◌||◌, ltb, leb, List, [], ◌∷◌, length, get_or, sym, refl, ap, ◌∙◌, le_of_suc-le-suc, not-suc-le-zero, add-zero, add_assoc, zero-add, arith, get_or-set_same, ltb-true, le-ltb, lt-ltb, le-leb, leb-true}
use borrow.Author.Tests.{lt-leb}
use lib.Seq.{set-get_or}
use native.Mathlib.Decide.{dec_lt}
use Rattle.ground_rules.specs.Buffers.{Buffers, space_of, limit_of, index_of, beyond_in, lent_at, byte_at}
use Rattle.ground_rules.specs.Choice.{pick}
use Rattle.ground_rules.specs.Places.{span, all_pass, all_touchable}
use Rattle.ground_rules.proofs.ChoiceLaws.{both_left, both_right}
use Rattle.ground_rules.proofs.SpanLaws.{span-io, span-system, span-tests}
use Rattle.execute.specs.Bytes.{reachable, over_by, behind_end, four_from, eight_from, four_at, eight_at}

-- ---- where addresses lie

-- within a list it does not matter what lies beyond, and beyond it nothing else does
within : (l : List ℕ) (i d e : ℕ) → i < length l → get_or l i d ≡ get_or l i e
within l i d e h = sym (ap (λ (x : List ℕ). get_or x i d) (set-get_or l i e)) ∙ get_or-set_same l i (get_or l i e) d h

past : (l : List ℕ) (i d : ℕ) → length l ≤ i → get_or l i d ≡ d
past [] i d h = refl
past (x ∷ l) zero d h = absurd (not-suc-le-zero h)
past (x ∷ l) (suc i) d h = past l i d (le_of_suc-le-suc h)

-- an address that does not reach its space's limit lies as far on as it counts, and one that does, from 0 on again
index_on : (t : Bool) (a k : ℕ) → index_of t a + k < limit_of t → index_of t (a + k) ≡ index_of t a + k
unfolding index_of limit_of
index_on true a k h = omega arith
index_on false a k h = omega arith

index-again : (t : Bool) (a k n : ℕ) → index_of t a + k ≡ limit_of t + n → n < limit_of t → index_of t (a + k) ≡ n
unfolding index_of limit_of
index-again true a k n h less = omega (arith, h, less)
index-again false a k n h less = omega (arith, h, less)

-- a limit is more than eight
limit-large : (t : Bool) → 8 ≤ limit_of t
unfolding limit_of
limit-large true = omega arith
limit-large false = omega arith

-- what a read beyond a buffer gives is a byte
beyond-small : (t : Bool) → beyond_in t < 256
unfolding beyond_in
beyond-small true = omega arith
beyond-small false = omega arith

-- addresses reach no further than a buffer's end, nor than the limit; short of that they reach its end
module _ (l : List ℕ) (most : ℕ) where
  pub reach-length : reachable l most ≤ length l
  unfolding reachable
  reach-length = by (dec_lt (length l) most)
    where
      by : Dec (length l < most) → pick (ltb (length l) most) (length l) most ≤ length l
      by (yes h) = rw (lt-ltb (length l) most h) (omega arith)
      by (no h) = rw (le-ltb (length l) most (omega arith)) (omega arith)

  pub reach-most : reachable l most ≤ most
  unfolding reachable
  reach-most = by (dec_lt (length l) most)
    where
      by : Dec (length l < most) → pick (ltb (length l) most) (length l) most ≤ most
      by (yes h) = rw (lt-ltb (length l) most h) (omega arith)
      by (no h) = rw (le-ltb (length l) most (omega arith)) (omega arith)

  reach-below : length l < most → reachable l most ≡ length l
  unfolding reachable
  reach-below h = rw (lt-ltb (length l) most h) refl

  reach-whole : most ≤ length l → reachable l most ≡ most
  unfolding reachable
  reach-whole h = rw (le-ltb (length l) most h) refl

-- ---- bytes in one piece

-- n bytes in a row are in one piece: they end where addresses reach
abbrev pub OnePiece : Buffers → Bool → ℕ → ℕ → Type 0
OnePiece m t a n = index_of t a + n ≤ reachable (space_of m t) (limit_of t)

module _ (m : Buffers) (t : Bool) (a n : ℕ) (h : OnePiece m t a n) where
  -- they end in the buffer
  pub piece-in : index_of t a + n ≤ length (space_of m t)
  piece-in = omega (arith, h, reach-length (space_of m t) (limit_of t))

  -- so each of them is read where it lies
  piece-at : (k : ℕ) → k < n → get_or (space_of m t) (index_of t a + k) 0 ≡ byte_at m t (a + k)
  unfolding byte_at
  piece-at k less =
      let below : index_of t a + k < limit_of t = omega (arith, h, reach-most (space_of m t) (limit_of t), less) in
      let inside : index_of t a + k < length (space_of m t) = omega (arith, piece-in, less) in
      within (space_of m t) (index_of t a + k) 0 (beyond_in t) inside ∙ ap (λ (i : ℕ). get_or (space_of m t) i (beyond_in t)) (sym (index_on t a k below))

-- ---- digits of a number

-- four digits as one number, and eight
abbrev four_of : (ℕ → ℕ) → ℕ
four_of f = f 0 + f 1 * 256 + f 2 * 65536 + f 3 * 16777216

abbrev eight_of : (ℕ → ℕ) → ℕ
eight_of f = f 0 + f 1 * 256 + f 2 * 65536 + f 3 * 16777216 + (f 4 + f 5 * 256 + f 6 * 65536 + f 7 * 16777216) * 4294967296

-- they are the same where their digits are
fours : (f g : ℕ → ℕ) → ((k : ℕ) → k < 4 → f k ≡ g k) → four_of f ≡ four_of g
fours f g e = rw (e 0 (omega arith), e 1 (omega arith), e 2 (omega arith), e 3 (omega arith))

eights : (f g : ℕ → ℕ) → ((k : ℕ) → k < 8 → f k ≡ g k) → eight_of f ≡ eight_of g
eights f g e = rw (e 0 (omega arith), e 1 (omega arith), e 2 (omega arith), e 3 (omega arith), e 4 (omega arith), e 5 (omega arith), e 6 (omega arith), e 7 (omega arith))

-- those of a buffer, and those at a place
four-from : (l : List ℕ) (i : ℕ) → four_from l i ≡ four_of (λ (k : ℕ). get_or l (i + k) 0)
unfolding four_from
four-from l i = rw (add-zero i)

eight-from : (l : List ℕ) (i : ℕ) → eight_from l i ≡ eight_of (λ (k : ℕ). get_or l (i + k) 0)
unfolding eight_from four_from
eight-from l i = rw (add-zero i, add_assoc i 4 1, add_assoc i 4 2, add_assoc i 4 3)

four-at : (m : Buffers) (t : Bool) (a : ℕ) → four_at m t a ≡ four_of (λ (k : ℕ). byte_at m t (a + k))
unfolding four_at
four-at m t a = rw (add-zero a)

eight-at : (m : Buffers) (t : Bool) (a : ℕ) → eight_at m t a ≡ eight_of (λ (k : ℕ). byte_at m t (a + k))
unfolding eight_at four_at
eight-at m t a = rw (add-zero a, add_assoc a 4 1, add_assoc a 4 2, add_assoc a 4 3)

-- so four bytes in one piece are four of the buffer, and eight are eight
pub four-piece : (m : Buffers) (t : Bool) (a : ℕ) → OnePiece m t a 4 → four_from (space_of m t) (index_of t a) ≡ four_at m t a
four-piece m t a h = four-from (space_of m t) (index_of t a) ∙ fours _ _ (piece-at m t a 4 h) ∙ sym (four-at m t a)

pub eight-piece : (m : Buffers) (t : Bool) (a : ℕ) → OnePiece m t a 8 → eight_from (space_of m t) (index_of t a) ≡ eight_at m t a
eight-piece m t a h = eight-from (space_of m t) (index_of t a) ∙ eights _ _ (piece-at m t a 8 h) ∙ sym (eight-at m t a)

-- where eight are in one piece, a call may touch the first n of them
pub piece-touchable : (m : Buffers) (t : Bool) (a n : ℕ) → OnePiece m t a 8 → n ≤ 8 → all_touchable m (span t a n) ≡ true
unfolding all_pass span
piece-touchable m true a n h few = span-io m a n
piece-touchable m false a n h few = span-system m a n ∙ some n few
  where
    some : (n : ℕ) → n ≤ 8 → all_pass (lent_at m) (span false a n) ≡ true
    some zero few = refl
    some (suc n) few =
        let reach : index_of false a + suc n ≤ length (space_of m false) = omega (arith, piece-in m false a 8 h, few) in
        sym (span-tests m false a (suc n) (λ e. omega (arith, e))) ∙ ap (λ (b : Bool). b || leb (limit_of false) (length (space_of m false))) (le-leb (index_of false a + suc n) (length (space_of m false)) reach)

-- ---- bytes over the end

-- the digits of one number from some on, and then those of another
unfoldable shifted : ℕ → (ℕ → ℕ) → (ℕ → ℕ) → ℕ → ℕ
shifted by g h k = pick (ltb (k + by) 8) (g (k + by)) (h (k + by - 8))

shifted-small : (by : ℕ) (g h : ℕ → ℕ) → ((k : ℕ) → g k < 256) → ((k : ℕ) → h k < 256) → (k : ℕ) → shifted by g h k < 256
unfolding shifted
shifted-small by g h p q k = either (ltb (k + by) 8)
  where
    either : (b : Bool) → pick b (g (k + by)) (h (k + by - 8)) < 256
    either true = p (k + by)
    either false = q (k + by - 8)

joined : (g h : ℕ → ℕ) → ((k : ℕ) → g k < 256) → ((k : ℕ) → h k < 256) → (by : ℕ) → 1 ≤ by → by < 8 → over_by (eight_of g) (eight_of h) by ≡ eight_of (shifted by g h)
unfolding over_by shifted
joined g h p q zero l u = absurd (omega (arith, l))
joined g h p q (suc zero) l u = omega (arith, p 0, q 0)
joined g h p q (suc (suc zero)) l u = omega (arith, p 0, p 1, q 0, q 1)
joined g h p q (suc (suc (suc zero))) l u = omega (arith, p 0, p 1, p 2, q 0, q 1, q 2)
joined g h p q (suc (suc (suc (suc zero)))) l u = omega (arith, p 0, p 1, p 2, p 3, q 0, q 1, q 2, q 3)
joined g h p q (suc (suc (suc (suc (suc zero))))) l u = omega (arith, p 0, p 1, p 2, p 3, p 4, q 0, q 1, q 2, q 3, q 4)
joined g h p q (suc (suc (suc (suc (suc (suc zero)))))) l u = omega (arith, p 0, p 1, p 2, p 3, p 4, p 5, q 0, q 1, q 2, q 3, q 4, q 5)
joined g h p q (suc (suc (suc (suc (suc (suc (suc zero))))))) l u = omega (arith, p 0, p 1, p 2, p 3, p 4, p 5, p 6, q 0, q 1, q 2, q 3, q 4, q 5, q 6)
joined g h p q (suc (suc (suc (suc (suc (suc (suc (suc n)))))))) l u = absurd (omega (arith, u))

-- which is a number of 64 bits
pub over-fits : (low high by : ℕ) → low < 18446744073709551616 → 1 ≤ by → by < 8 → over_by low high by < 18446744073709551616
unfolding over_by
over-fits low high zero small l u = absurd (omega (arith, l))
over-fits low high (suc zero) small l u = omega (arith, small)
over-fits low high (suc (suc zero)) small l u = omega (arith, small)
over-fits low high (suc (suc (suc zero))) small l u = omega (arith, small)
over-fits low high (suc (suc (suc (suc zero)))) small l u = omega (arith, small)
over-fits low high (suc (suc (suc (suc (suc zero))))) small l u = omega (arith, small)
over-fits low high (suc (suc (suc (suc (suc (suc zero)))))) small l u = omega (arith, small)
over-fits low high (suc (suc (suc (suc (suc (suc (suc zero))))))) small l u = omega (arith, small)
over-fits low high (suc (suc (suc (suc (suc (suc (suc (suc n)))))))) small l u = absurd (omega (arith, u))

-- the tests of eight bytes that begin before a place and end behind it, where eight stand before it
pub over-tests : (at end : ℕ) → (leb 8 end && ltb at end) && ltb end (at + 8) ≡ true → (8 ≤ end) × (at < end) × (end < at + 8)
over-tests at end h =
    let first = both_left (leb 8 end && ltb at end) (ltb end (at + 8)) h in
    (leb-true 8 end (both_left (leb 8 end) (ltb at end) first), ltb-true at end (both_right (leb 8 end) (ltb at end) first), ltb-true end (at + 8) (both_right (leb 8 end && ltb at end) (ltb end (at + 8)) h))

-- and that a buffer ends fewer than eight bytes below the top
pub near-tests : (n top : ℕ) → ltb n top && ltb top (n + 8) ≡ true → (n < top) × (top < n + 8)
near-tests n top h = (ltb-true n top (both_left (ltb n top) (ltb top (n + 8)) h), ltb-true top (n + 8) (both_right (ltb n top) (ltb top (n + 8)) h))

-- so they lie about the end that addresses reach, what lies behind it being given
module _ (m : Buffers) (t : Bool) (a end : ℕ) (reached : end ≡ reachable (space_of m t) (limit_of t)) (known : (i : ℕ) → get_or (space_of m t) i 0 < 256)
    (tests : (leb 8 end && ltb (index_of t a) end) && ltb end (index_of t a + 8) ≡ true) where
  most : 8 ≤ end
  most = (over-tests (index_of t a) end tests).0

  before : index_of t a < end
  before = (over-tests (index_of t a) end tests).1

  behind : end < index_of t a + 8
  behind = (over-tests (index_of t a) end tests).2

  ended : length (space_of m t) < limit_of t → end ≡ length (space_of m t)
  unfolding reachable
  ended short = reached ∙ reach-below (space_of m t) (limit_of t) short

  over-is : (h : ℕ → ℕ) → ((k : ℕ) → h k < 256) → ((n k : ℕ) → index_of t a + n ≡ end + k → n < 8 → byte_at m t (a + n) ≡ h k)
      → over_by (eight_from (space_of m t) (end - 8)) (eight_of h) (index_of t a + 8 - end) ≡ eight_at m t a
  unfolding shifted
  over-is h small there =
      ap (λ (x : ℕ). over_by x (eight_of h) by) (eight-from (space_of m t) (end - 8))
      ∙ joined last h (λ k. known (end - 8 + k)) small by (omega (arith, behind)) (omega (arith, before))
      ∙ eights (shifted by last h) (λ (k : ℕ). byte_at m t (a + k)) (λ k less. digit k less (dec_lt (k + by) 8))
      ∙ sym (eight-at m t a)
    where
      by : ℕ
      by = index_of t a + 8 - end

      last : ℕ → ℕ
      last k = get_or (space_of m t) (end - 8 + k) 0

      digit : (k : ℕ) → k < 8 → Dec (k + by < 8) → shifted by last h k ≡ byte_at m t (a + k)
      digit k less (yes q) =
          let e : end - 8 + (k + by) ≡ index_of t a + k = omega (arith, most, before, behind) in
          let in-piece : OnePiece m t a (k + 1) = omega (arith, q, before, behind, reached) in
          rw (lt-ltb (k + by) 8 q) (ap (λ (i : ℕ). get_or (space_of m t) i 0) e ∙ piece-at m t a (k + 1) in-piece k (omega arith))
      digit k less (no q) =
          let e : index_of t a + k ≡ end + (k + by - 8) = omega (arith, q, before, behind) in
          rw (le-ltb (k + by) 8 (omega (arith, q))) (sym (there k (k + by - 8) e less))

  -- behind the end and below the top lies what a read beyond the buffer gives, and from the top on the buffer's first bytes
  empty : (n k : ℕ) → index_of t a + n ≡ end + k → end ≡ length (space_of m t) → end + k < limit_of t → byte_at m t (a + n) ≡ beyond_in t
  unfolding byte_at
  empty n k at ended low =
      ap (λ (i : ℕ). get_or (space_of m t) i (beyond_in t)) (index_on t a n (omega (arith, at, low)))
      ∙ past (space_of m t) (index_of t a + n) (beyond_in t) (omega (arith, at, ended))

  again : (n k : ℕ) → index_of t a + n ≡ limit_of t + k → k < 8 → byte_at m t (a + n) ≡ get_or (space_of m t) (0 + k) 0
  unfolding byte_at
  again n k at less =
      ap (λ (i : ℕ). get_or (space_of m t) i (beyond_in t)) (index-again t a n k at (omega (arith, less, limit-large t)) ∙ sym (zero-add k))
      ∙ within (space_of m t) (0 + k) (beyond_in t) 0 (omega (arith, less, most, reached, reach-length (space_of m t) (limit_of t)))

  -- so of a whole buffer, of one that ends fewer than eight bytes below the top, and of any other the same eight bytes are read
  pub over-end : over_by (eight_from (space_of m t) (end - 8)) (behind_end (space_of m t) (limit_of t) (eight_of (λ (k : ℕ). beyond_in t))) (index_of t a + 8 - end) ≡ eight_at m t a
  unfolding behind_end shifted
  over-end = by (dec_lt (length (space_of m t)) (limit_of t)) (dec_lt (limit_of t) (length (space_of m t) + 8))
    where
      beyond : ℕ → ℕ
      beyond k = beyond_in t

      front : ℕ → ℕ
      front k = get_or (space_of m t) (0 + k) 0

      gap : ℕ
      gap = length (space_of m t) + 8 - limit_of t

      over : ℕ → ℕ
      over high = over_by (eight_from (space_of m t) (end - 8)) high (index_of t a + 8 - end)

      small : (k : ℕ) → beyond k < 256
      small k = beyond-small t

      top : (n k : ℕ) → length (space_of m t) < limit_of t → limit_of t < length (space_of m t) + 8 → index_of t a + n ≡ end + k → n < 8 → Dec (k + gap < 8) → byte_at m t (a + n) ≡ shifted gap beyond front k
      top n k short near at few (yes low) = rw (lt-ltb (k + gap) 8 low) (empty n k at (ended short) (omega (arith, low, ended short, near)))
      top n k short near at few (no high) = rw (le-ltb (k + gap) 8 (omega (arith, high))) (again n (k + gap - 8) (omega (arith, at, high, ended short, near, short)) (omega (arith, at, few, before, short, ended short)))

      by : Dec (length (space_of m t) < limit_of t) → Dec (limit_of t < length (space_of m t) + 8) → over (behind_end (space_of m t) (limit_of t) (eight_of beyond)) ≡ eight_at m t a
      by (no whole) near =
          rw (le-ltb (length (space_of m t)) (limit_of t) (omega (arith, whole)), le-leb (limit_of t) (length (space_of m t)) (omega (arith, whole)))
          (ap over (eight-from (space_of m t) 0) ∙ over-is front (λ k. known (0 + k)) (λ n k at few. again n k (omega (arith, at, reached, reach-whole (space_of m t) (limit_of t) (omega (arith, whole)))) (omega (arith, at, few, before))))
      by (yes short) (no far) =
          rw (lt-ltb (length (space_of m t)) (limit_of t) short, le-ltb (limit_of t) (length (space_of m t) + 8) (omega (arith, far)), lt-leb (limit_of t) (length (space_of m t)) short)
          (over-is beyond small (λ n k at few. empty n k at (ended short) (omega (arith, at, few, before, ended short, far))))
      by (yes short) (yes near) =
          rw (lt-ltb (length (space_of m t)) (limit_of t) short, lt-ltb (limit_of t) (length (space_of m t) + 8) near)
          (ap over (ap (λ (x : ℕ). over_by (eight_of beyond) x gap) (eight-from (space_of m t) 0) ∙ joined beyond front small (λ k. known (0 + k)) gap (omega (arith, near)) (omega (arith, short)))
          ∙ over-is (shifted gap beyond front) (shifted-small gap beyond front small (λ k. known (0 + k))) (λ n k at few. top n k short near at few (dec_lt (k + gap) 8)))
