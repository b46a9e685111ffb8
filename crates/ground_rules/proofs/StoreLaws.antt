-- The laws of reading after a store, at the same place and at another, that lengths never change, of empty slots, and that what was stored comes back.
-- Assumes nothing.
use Prim.Native.Nat.{ℕ, ◌+◌, ◌%◌, ◌<◌}
use borrow.Author.Tests.{ltb-true, ltb-false}
use lib.Dec.{ltb, lit<}
use lib.ListN.{length, get_or, set, length-set, get_or-eq_default}
use lib.Seq.{get_or-set_same, get_or-set_other, set_out}
use mathlib.Core.Bool.{Bool, true, false, ◌||◌}
use mathlib.Core.List.{List}
use mathlib.Core.Path.{◌≡◌, refl, sym, ap, ap₂, subst, ◌∙◌}
use native.Mathlib.Nat.{add-zero, add_assoc}
use native.Mathlib.Omega.{arith}
use Rattle.ground_rules.proofs.StoredLaws.{address-back, tag-kept}
use Rattle.ground_rules.specs.Bytes.{low_byte, high_byte, word_of}
use Rattle.ground_rules.specs.Stored.{stored_low, stored_middle, stored_high}
use Rattle.ground_rules.specs.Sums.{address_of}
use Rattle.ground_rules.specs.Buffers.{Buffers, buffers, space_of, index_of, lent_at, touchable_at, EmptySlot, beyond_in, byte_at, store_byte}
use Rattle.ground_rules.specs.Places.{Apart}
use Rattle.ground_rules.specs.Values.{word_at, doubleword_at, pointer, pointer_at, store_word, store_doubleword, store_pointer}
use Rattle.ground_rules.specs.declared.Pointer.{Pointer}
use Rattle.ground_rules.proofs.PlaceLaws.{later, after}

-- a store changes its own space at one index, and the other space not at all
store-space : (m : Buffers) (t : Bool) (a v : ℕ) → space_of (store_byte m t a v) t ≡ set (space_of m t) (index_of t a) v
unfolding space_of store_byte
store-space m true a v = refl
store-space m false a v = refl

-- the lengths never change
pub store_length : (m : Buffers) (t u : Bool) (a v : ℕ) → length (space_of (store_byte m t a v) u) ≡ length (space_of m u)
unfolding space_of store_byte
store_length m true true a v = length-set m.io (index_of true a) v
store_length m true false a v = refl
store_length m false true a v = refl
store_length m false false a v = length-set m.sys (index_of false a) v

-- where lengths are the same, the same is lent
pub same-lent : (m m' : Buffers) → ((u : Bool) → length (space_of m' u) ≡ length (space_of m u)) → (u : Bool) (a : ℕ) → lent_at m' u a ≡ lent_at m u a
unfolding lent_at
same-lent m m' e u a = ap (ltb (index_of u a)) (e u)

-- so what is lent stays lent
pub store-lent : (m : Buffers) (t u : Bool) (a b v : ℕ) → lent_at (store_byte m t a v) u b ≡ lent_at m u b
store-lent m t u a b v = same-lent m (store_byte m t a v) (λ w. store_length m t w a v) u b

-- and a call may touch what it might before
pub store-touchable : (m : Buffers) (t u : Bool) (a b v : ℕ) → touchable_at (store_byte m t a v) u b ≡ touchable_at m u b
unfolding touchable_at
store-touchable m t u a b v = ap (λ (x : Bool). u || x) (store-lent m t u a b v)

-- read after a store at the same place
pub read_same : (m : Buffers) (t : Bool) (a v : ℕ) → lent_at m t a ≡ true → byte_at (store_byte m t a v) t a ≡ v
unfolding byte_at lent_at
read_same m t a v h =
    ap (λ (l : List ℕ). get_or l (index_of t a) (beyond_in t)) (store-space m t a v)
    ∙ get_or-set_same (space_of m t) (index_of t a) v (beyond_in t) (ltb-true (index_of t a) (length (space_of m t)) h)

-- read after a store at another place
pub read-other : (m : Buffers) (t : Bool) (a v : ℕ) (u : Bool) (b : ℕ) → Apart t a u b → byte_at (store_byte m t a v) u b ≡ byte_at m u b
unfolding byte_at space_of store_byte
read-other m true a v true b ne = get_or-set_other m.io (index_of true a) (index_of true b) v (beyond_in true) (λ e. ne refl (sym e))
read-other m true a v false b ne = refl
read-other m false a v true b ne = refl
read-other m false a v false b ne = get_or-set_other m.sys (index_of false a) (index_of false b) v (beyond_in false) (λ e. ne refl (sym e))

-- a store beyond the lent end changes nothing
pub store-beyond : (m : Buffers) (t : Bool) (a v : ℕ) → lent_at m t a ≡ false → store_byte m t a v ≡ m
unfolding lent_at space_of store_byte
store-beyond m true a v h = ap (λ (l : List ℕ). buffers m.sys l) (set_out m.io (index_of true a) v (ltb-false _ _ h))
store-beyond m false a v h = ap (λ (l : List ℕ). buffers l m.io) (set_out m.sys (index_of false a) v (ltb-false _ _ h))

-- ---- empty slots

-- an empty slot reads FFh
pub slot-reads : (m : Buffers) (a : ℕ) → EmptySlot m a → byte_at m true a ≡ 255
unfolding byte_at lent_at beyond_in
slot-reads m a h = get_or-eq_default (space_of m true) 255 (ltb-false (index_of true a) (length (space_of m true)) h)

-- every call may touch it
pub io-touchable : (m : Buffers) (a : ℕ) → touchable_at m true a ≡ true
unfolding touchable_at
io-touchable m a = refl

-- and it stays empty, and so reads FFh, whatever is stored and wherever
pub slot-stays : (m : Buffers) (t : Bool) (a v b : ℕ) → EmptySlot m b → byte_at (store_byte m t a v) true b ≡ 255
slot-stays m t a v b h = slot-reads (store_byte m t a v) b (store-lent m t true a b v ∙ h)

-- ---- what a call may touch

-- what is lent, in either space
pub lent-touchable : (m : Buffers) (t : Bool) (a : ℕ) → lent_at m t a ≡ true → touchable_at m t a ≡ true
unfolding touchable_at
lent-touchable m true a h = refl
lent-touchable m false a h = h

-- of system space nothing else
pub system-touchable : (m : Buffers) (a : ℕ) → touchable_at m false a ≡ lent_at m false a
unfolding touchable_at
system-touchable m a = refl

-- ---- what was stored comes back

-- a stored word touches nothing else
pub word-other : (m : Buffers) (t : Bool) (a v : ℕ) (u : Bool) (b : ℕ) → Apart t a u b → Apart t (a + 1) u b → byte_at (store_word m t a v) u b ≡ byte_at m u b
unfolding store_word
word-other m t a v u b ne₁ ne₂ =
    read-other (store_byte m t a (low_byte v)) t (a + 1) (high_byte v) u b ne₂ ∙ read-other m t a (low_byte v) u b ne₁

pub word-lent : (m : Buffers) (t : Bool) (a v : ℕ) (u : Bool) (b : ℕ) → lent_at (store_word m t a v) u b ≡ lent_at m u b
unfolding store_word
word-lent m t a v u b = store-lent (store_byte m t a (low_byte v)) t u (a + 1) b (high_byte v) ∙ store-lent m t u a b (low_byte v)

-- a word stored in two lent bytes reads back
pub word_back : (m : Buffers) (t : Bool) (a v : ℕ) → lent_at m t a ≡ true → lent_at m t (a + 1) ≡ true → word_at (store_word m t a v) t a ≡ v % 65536
unfolding word_at store_word
word_back m t a v h₀ h₁ =
    let m₁ = store_byte m t a (low_byte v) in
    ap₂ word_of
    (read-other m₁ t (a + 1) (high_byte v) t a (after t a 1 (lit< tt) (lit< tt)) ∙ read_same m t a (low_byte v) h₀)
    (read_same m₁ t (a + 1) (high_byte v) (store-lent m t t a (a + 1) (low_byte v) ∙ h₁))
    ∙ omega arith

-- a doubleword pointer stored in four lent bytes reads back as its address
pub doubleword-back : (m : Buffers) (t : Bool) (a offset segment : ℕ) → lent_at m t a ≡ true → lent_at m t (a + 1) ≡ true
    → lent_at m t (a + 2) ≡ true → lent_at m t (a + 3) ≡ true
    → doubleword_at (store_doubleword m t a offset segment) t a ≡ address_of (offset % 65536) (segment % 65536)
unfolding doubleword_at store_doubleword word_at
doubleword-back m t a offset segment h₀ h₁ h₂ h₃ =
    let m₁ = store_word m t a offset in
    let fourth : a + 2 + 1 ≡ a + 3 = add_assoc a 2 1 in
    let kept : (j : ℕ) → j < 2 → byte_at (store_word m₁ t (a + 2) segment) t (a + j) ≡ byte_at m₁ t (a + j) =
    λ j hj. word-other m₁ t (a + 2) segment t (a + j) (later t a j 2 hj (lit< tt)) (subst (λ (b : ℕ). Apart t b t (a + j)) (sym fourth) (later t a j 3 (omega arith) (lit< tt))) in
    ap₂ address_of
    (ap₂ word_of (rw add-zero at (kept 0 (lit< tt))) (kept 1 (lit< tt)) ∙ word_back m t a offset h₀ h₁)
    (word_back m₁ t (a + 2) segment (word-lent m t a offset t (a + 2) ∙ h₂) (word-lent m t a offset t (a + 2 + 1) ∙ ap (lent_at m t) fourth ∙ h₃))

-- the three bytes of a stored pointer, where they are lent
pub pointer-bytes : (m : Buffers) (t : Bool) (a : ℕ) (p : Pointer) → lent_at m t a ≡ true → lent_at m t (a + 1) ≡ true → lent_at m t (a + 2) ≡ true
    → (byte_at (store_pointer m t a p) t a ≡ stored_low p.address)
    × (byte_at (store_pointer m t a p) t (a + 1) ≡ stored_middle p.address)
    × (byte_at (store_pointer m t a p) t (a + 2) ≡ stored_high p.address p.tag)
unfolding store_pointer
pointer-bytes m t a p h₀ h₁ h₂ =
    let x₀ = stored_low p.address in
    let x₁ = stored_middle p.address in
    let x₂ = stored_high p.address p.tag in
    let m₁ = store_byte m t a x₀ in
    let m₂ = store_byte m₁ t (a + 1) x₁ in (
      read-other m₂ t (a + 2) x₂ t a (after t a 2 (lit< tt) (lit< tt))
          ∙ read-other m₁ t (a + 1) x₁ t a (after t a 1 (lit< tt) (lit< tt))
          ∙ read_same m t a x₀ h₀,
      read-other m₂ t (a + 2) x₂ t (a + 1) (later t a 1 2 (lit< tt) (lit< tt))
          ∙ read_same m₁ t (a + 1) x₁ (store-lent m t t a (a + 1) x₀ ∙ h₁),
      read_same m₂ t (a + 2) x₂ (store-lent m₁ t t (a + 1) (a + 2) x₁ ∙ store-lent m t t a (a + 2) x₀ ∙ h₂),
    )

-- so it reads back in 20 bits and tag
pub pointer_back : (m : Buffers) (t : Bool) (a : ℕ) (p : Pointer) → lent_at m t a ≡ true → lent_at m t (a + 1) ≡ true → lent_at m t (a + 2) ≡ true
    → pointer_at (store_pointer m t a p) t a ≡ pointer (p.address % 1048576) p.tag
unfolding pointer_at
pointer_back m t a p h₀ h₁ h₂ =
    let b = pointer-bytes m t a p h₀ h₁ h₂ in
    rw (b.0, b.1, b.2) (ap₂ pointer (address-back p.address p.tag) (tag-kept p.address p.tag))
