-- The laws of agreement: of lists joined, of bytes in a row, and of all that is read there.
-- Assumes nothing.
use Prim.Native.Nat.{ℕ, zero, suc, ◌+◌, ◌%◌, ◌<◌, ◌≤◌}
use lib.Dec.{ltb, leb, eqb, lit<}
use mathlib.Core.Bool.{Bool, true, false, ◌&&◌, ◌||◌}
use mathlib.Core.List.{List, [], ◌∷◌, ◌++◌}
use mathlib.Core.Path.{◌≡◌, refl, sym, ap, ap₂, subst, ◌∙◌}
use native.Mathlib.Nat.{add-zero, add_assoc, not-suc-le-zero, le_of_suc-le-suc}
use native.Mathlib.Omega.{arith}
use Rattle.ground_rules.specs.Bytes.{word_of}
use Rattle.ground_rules.specs.Choice.{pick}
use Rattle.ground_rules.specs.Signs.{signed_of, extended}
use Rattle.ground_rules.specs.Sums.{address_of}
use Rattle.ground_rules.proofs.PlaceLaws.{index-after, byte-index}
use Rattle.ground_rules.specs.Buffers.{Buffers, space_of, limit_of, index_of, lent_at, touchable_at, byte_at, within_limits}
use Rattle.ground_rules.specs.Places.{Place, span, all_pass, all_touchable}
use Rattle.ground_rules.specs.Values.{pointer, onward, word_at, doubleword_at, pointer_at}
use Rattle.ground_rules.specs.declared.Pointer.{Pointer}
use Rattle.ground_rules.specs.Outcomes.{unless, first, given_number}
use Rattle.ground_rules.specs.Registers.{base_of}
use Rattle.ground_rules.specs.Stages.{Stage, stages_number}
use Rattle.ground_rules.specs.declared.Channel.{Channel}
use Rattle.ground_rules.specs.declared.State.{State}
use Rattle.instruction_rules.specs.Lengths.{more_by, one_or_two, offset_length}
use Rattle.instruction_rules.specs.declared.Memory.{Memory}
use Rattle.instruction_rules.specs.Operands.{byte_here, bytes_at, size_of, indexed, effective, operand_at, displacement_at, landing, jumped_if}
use Rattle.promises_counts.specs.Complete.{SameLengths, AgreeOn}

-- every memory agrees with itself
pub agree-self : (ps : List Place) (m : Buffers) → AgreeOn ps m m
agree-self [] m = tt
agree-self (p ∷ ps) m = (refl, agree-self ps m)

module _ (m n : Buffers) where
  -- memories that agree on two lists agree on each
  pub agree_left : (ps qs : List Place) → AgreeOn (ps ++ qs) m n → AgreeOn ps m n
  agree_left [] qs h = tt
  agree_left (p ∷ ps) qs h = (h.0, agree_left ps qs h.1)

  pub agree_right : (ps qs : List Place) → AgreeOn (ps ++ qs) m n → AgreeOn qs m n
  agree_right [] qs h = h
  agree_right (p ∷ ps) qs h = agree_right ps qs h.1

  -- those that agree on bytes in a row agree on each of them,
  pub agree_at : (t : Bool) (a k j : ℕ) → AgreeOn (span t a k) m n → j < k → byte_at n t (a + j) ≡ byte_at m t (a + j)
  unfolding span
  agree_at t a zero j h l = absurd (not-suc-le-zero l)
  agree_at t a (suc k) zero h l = rw add-zero h.0
  agree_at t a (suc k) (suc j) h l =
      let e : a + 1 + j ≡ a + suc j = omega arith in
      subst (λ (b : ℕ). byte_at n t b ≡ byte_at m t b) e (agree_at t (a + 1) k j h.1 (le_of_suc-le-suc l))

  -- and the other way round
  pub agree-span : (t : Bool) (a k : ℕ) → ((j : ℕ) → j < k → byte_at n t (a + j) ≡ byte_at m t (a + j)) → AgreeOn (span t a k) m n
  unfolding span
  agree-span t a zero f = tt
  agree-span t a (suc k) f =
      let here : byte_at n t a ≡ byte_at m t a = rw add-zero at (f 0 (omega arith)) in
      (here, agree-span t (a + 1) k (λ j l. let e : a + suc j ≡ a + 1 + j = omega arith in subst (λ (b : ℕ). byte_at n t b ≡ byte_at m t b) e (f (suc j) (omega arith))))

  -- so they agree on a part of them
  pub agree-part : (p : Pointer) (k j l : ℕ) → j + l ≤ k → AgreeOn (bytes_at p k) m n → AgreeOn (bytes_at (onward p j) l) m n
  unfolding onward
  agree-part p k j l fits h = agree-span p.tag ((p.address + j) % 1048576) l one
    where
      place : (i : ℕ) → index_of p.tag ((p.address + j) % 1048576 + i) ≡ index_of p.tag (p.address + (j + i))
      place i = index-after p.tag (p.address + j) i ∙ ap (index_of p.tag) (add_assoc p.address j i)

      one : (i : ℕ) → i < l → byte_at n p.tag ((p.address + j) % 1048576 + i) ≡ byte_at m p.tag ((p.address + j) % 1048576 + i)
      one i x =
          byte-index n p.tag ((p.address + j) % 1048576 + i) (p.address + (j + i)) (place i)
          ∙ agree_at p.tag p.address k (j + i) h (omega arith)
          ∙ sym (byte-index m p.tag ((p.address + j) % 1048576 + i) (p.address + (j + i)) (place i))

  -- and on the first of them
  pub agree-first : (p : Pointer) (k l : ℕ) → l ≤ k → AgreeOn (bytes_at p k) m n → AgreeOn (bytes_at p l) m n
  agree-first p k l fits h = agree-span p.tag p.address l (λ i x. agree_at p.tag p.address k i h (omega arith))

  -- ---- what is read of them

  -- a byte
  pub byte-same : (p : Pointer) (k : ℕ) → 0 < k → AgreeOn (bytes_at p k) m n → byte_here n p ≡ byte_here m p
  byte-same p k l h = rw add-zero at (agree_at p.tag p.address k 0 h l)

  -- the byte j places on
  pub byte-on : (p : Pointer) (k j : ℕ) → j < k → AgreeOn (bytes_at p k) m n → byte_here n (onward p j) ≡ byte_here m (onward p j)
  byte-on p k j l h = byte-same (onward p j) 1 (lit< tt) (agree-part p k j 1 (omega arith) h)

  -- a word
  word-at : (t : Bool) (a k j : ℕ) → j + 1 < k → AgreeOn (span t a k) m n → word_at n t (a + j) ≡ word_at m t (a + j)
  unfolding word_at
  word-at t a k j l h =
      ap₂ word_of (agree_at t a k j h (omega arith))
      (subst (λ (b : ℕ). byte_at n t b ≡ byte_at m t b) (sym (add_assoc a j 1)) (agree_at t a k (j + 1) h l))

  pub word_same : (t : Bool) (a k : ℕ) → 1 < k → AgreeOn (span t a k) m n → word_at n t a ≡ word_at m t a
  word_same t a k l h = rw add-zero at (word-at t a k 0 l h)

  -- a doubleword pointer
  pub doubleword-same : (t : Bool) (a : ℕ) → AgreeOn (span t a 4) m n → doubleword_at n t a ≡ doubleword_at m t a
  unfolding doubleword_at
  doubleword-same t a h = ap₂ address_of (word_same t a 4 (lit< tt) h) (word-at t a 4 2 (lit< tt) h)

  -- a stored pointer
  pub pointer-same : (t : Bool) (a k : ℕ) → 2 < k → AgreeOn (span t a k) m n → pointer_at n t a ≡ pointer_at m t a
  unfolding pointer_at
  pointer-same t a k l h =
      let e₀ : byte_at n t a ≡ byte_at m t a = rw add-zero at (agree_at t a k 0 h (omega arith)) in
      let e₁ : byte_at n t (a + 1) ≡ byte_at m t (a + 1) = agree_at t a k 1 h (omega arith) in
      let e₂ : byte_at n t (a + 2) ≡ byte_at m t (a + 2) = agree_at t a k 2 h l in
      rw (e₀, e₁, e₂)

  -- an operand
  pub operand_same : (p : Pointer) (wide : Bool) → AgreeOn (bytes_at p (size_of wide)) m n → operand_at n p wide ≡ operand_at m p wide
  unfolding operand_at
  operand_same p true h = ap (extended 16) (word_same p.tag p.address 2 (lit< tt) h)
  operand_same p false h = ap (extended 8) (byte-same p 1 (lit< tt) h)

  -- a displacement, and a channel that jumps by it or not
  displacement-same : (p : Pointer) (two : Bool) → AgreeOn (bytes_at p (one_or_two two)) m n → displacement_at n p two ≡ displacement_at m p two
  unfolding displacement_at
  displacement-same p true h = ap (signed_of 16) (word_same p.tag p.address 2 (lit< tt) h)
  displacement-same p false h = ap (signed_of 8) (byte-same p 1 (lit< tt) h)

  pub jumped-same : (taken : Bool) (c : Channel) (p : Pointer) (two : Bool) → AgreeOn (bytes_at p (one_or_two two)) m n → jumped_if taken n c p two ≡ jumped_if taken m c p two
  unfolding jumped_if landing
  jumped-same taken c p two h = rw (displacement-same p two h)

  -- where an operand lies
  pub effective-same : (c : Channel) (o : Memory) (pair : Pointer) → AgreeOn (bytes_at (onward pair 2) (offset_length o)) m n → effective n c o pair ≡ effective m c o pair
  unfolding effective indexed offset_length span
  effective-same c o pair h = ap (onward (base_of c o.mm)) (go (eqb o.aa 0) (eqb o.aa 1) h)
    where
      go : (none one : Bool) → AgreeOn (bytes_at (onward pair 2) (more_by one)) m n
          → pick none 0 (pick one (byte_here n (onward pair 2)) c.ix) ≡ pick none 0 (pick one (byte_here m (onward pair 2)) c.ix)
      go true one h = refl
      go false true h = h.0
      go false false h = refl

  -- ---- what may be touched of them

  module _ (same : SameLengths m n) where
    pub touchable-same : (ps : List Place) → all_touchable n ps ≡ all_touchable m ps
    unfolding all_pass touchable_at lent_at
    touchable-same [] = refl
    touchable-same (p ∷ ps) = ap₂ ◌&&◌ (ap (λ (l : ℕ). p.tag || ltb (index_of p.tag p.address) l) (same p.tag)) (touchable-same ps)

    -- what a call is given is refused alike
    pub limits-same : within_limits n ≡ within_limits m
    unfolding within_limits space_of
    limits-same = ap₂ (λ (a b : ℕ). leb a (limit_of false) && leb b (limit_of true)) (same false) (same true)

    pub given-same : (s : State) → given_number s n ≡ given_number s m
    unfolding given_number
    given-same s = rw limits-same

    -- so the stages of a call give the same number
    pub number_same : (stages : List Stage) → stages_number n stages ≡ stages_number m stages
    unfolding stages_number
    number_same [] = refl
    number_same (s ∷ rest) = ap₂ (λ (a : Bool) (b : ℕ). first (unless a 2) (first s.judged b)) (touchable-same s.places) (number_same rest)
