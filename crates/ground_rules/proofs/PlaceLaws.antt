-- The laws of where an address lies: each byte's address is reduced by itself, and neighbours are different bytes.
-- Assumes nothing.
use Prim.Native.Nat.{ℕ, ◌+◌, ◌/◌, ◌%◌, ◌<◌}
use lib.Dec.{ltb, lit<}
use lib.ListN.{length, get_or}
use lib.Pow.{mod-mod-pow}
use mathlib.Core.Bool.{Bool, true, false, ◌||◌}
use mathlib.Core.Path.{◌≡◌, sym, ap, ap₂, ◌∙◌}
use native.Mathlib.Nat.{mod-lt, mod-mod, mod-add-mod, add-zero, add_assoc}
use native.Mathlib.Omega.{arith}
use Rattle.ground_rules.specs.Bytes.{word_of}
use Rattle.ground_rules.specs.Buffers.{Buffers, space_of, limit_of, index_of, lent_at, touchable_at, beyond_in, byte_at, store_byte}
use Rattle.ground_rules.specs.Places.{Apart}
use Rattle.ground_rules.specs.Values.{pointer, onward, word_at, store_word}
use Rattle.ground_rules.specs.declared.Pointer.{Pointer}

-- an address lies below its space's limit
pub index-lt : (t : Bool) (a : ℕ) → index_of t a < limit_of t
unfolding index_of limit_of
index-lt true a = mod-lt a (lit< tt)
index-lt false a = mod-lt a (lit< tt)

-- and so below 2 ^ 20, whichever the space
pub index-small : (t : Bool) (a : ℕ) → index_of t a < 1048576
unfolding index_of limit_of
index-small true a = omega arith
index-small false a = omega arith

-- an address reduced to 20 bits lies where it lay
pub index-reduced : (t : Bool) (a : ℕ) → index_of t (a % 1048576) ≡ index_of t a
unfolding index_of limit_of
index-reduced true a = mod-mod-pow a 4 16
index-reduced false a = mod-mod a 1048576

-- and so do the addresses after it
pub index-after : (t : Bool) (a k : ℕ) → index_of t (a % 1048576 + k) ≡ index_of t (a + k)
index-after t a k = sym (index-reduced t (a % 1048576 + k)) ∙ ap (index_of t) (mod-add-mod a 1048576 k) ∙ index-reduced t (a + k)

-- a pointer on, and on again
pub onward-twice : (p : Pointer) (i j : ℕ) → onward (onward p i) j ≡ onward p (i + j)
unfolding onward
onward-twice p i j = ap (λ (a : ℕ). pointer a p.tag) (mod-add-mod (p.address + i) 1048576 j ∙ ap (λ (a : ℕ). a % 1048576) (add_assoc p.address i j))

-- the next address lies next, short of the limit
pub index-next : (t : Bool) (a n : ℕ) → index_of t a < n → n < limit_of t → index_of t (a + 1) ≡ index_of t a + 1
unfolding index_of limit_of
index-next true a n h₁ h₂ = omega arith
index-next false a n h₁ h₂ = omega arith

-- addresses that differ by less than the smaller limit are different bytes
pub index-apart : (t : Bool) (a j k : ℕ) → j < k → k < 65536 → index_of t (a + j) ≡ index_of t (a + k) → ⊥
unfolding index_of limit_of
index-apart true a j k h₁ h₂ e = omega arith
index-apart false a j k h₁ h₂ e = omega arith

-- so the byte k after an address is another byte than the one j after it
pub later : (t : Bool) (a j k : ℕ) → j < k → k < 65536 → Apart t (a + k) t (a + j)
later t a j k h₁ h₂ e i = index-apart t a j k h₁ h₂ (sym i)

-- and another than the one at it
pub after : (t : Bool) (a k : ℕ) → 0 < k → k < 65536 → Apart t (a + k) t a
after t a k h₁ h₂ e i = index-apart t a 0 k h₁ h₂ (ap (index_of t) (add-zero a) ∙ sym i)

-- where two addresses lie alike, they are alike to every definition of one byte
pub lent-index : (m : Buffers) (t : Bool) (a b : ℕ) → index_of t a ≡ index_of t b → lent_at m t a ≡ lent_at m t b
unfolding lent_at
lent-index m t a b e = ap (λ (i : ℕ). ltb i (length (space_of m t))) e

pub touchable-index : (m : Buffers) (t : Bool) (a b : ℕ) → index_of t a ≡ index_of t b → touchable_at m t a ≡ touchable_at m t b
unfolding touchable_at
touchable-index m t a b e = ap (λ (x : Bool). t || x) (lent-index m t a b e)

pub byte-index : (m : Buffers) (t : Bool) (a b : ℕ) → index_of t a ≡ index_of t b → byte_at m t a ≡ byte_at m t b
unfolding byte_at
byte-index m t a b e = ap (λ (i : ℕ). get_or (space_of m t) i (beyond_in t)) e

pub store-index : (m : Buffers) (t : Bool) (a b v : ℕ) → index_of t a ≡ index_of t b → store_byte m t a v ≡ store_byte m t b v
unfolding store_byte
store-index m t a b v e = rw e

-- a reduced address serves for the address itself
pub byte-reduced : (m : Buffers) (t : Bool) (a : ℕ) → byte_at m t (a % 1048576) ≡ byte_at m t a
byte-reduced m t a = byte-index m t (a % 1048576) a (index-reduced t a)

pub store-reduced : (m : Buffers) (t : Bool) (a v : ℕ) → store_byte m t (a % 1048576) v ≡ store_byte m t a v
store-reduced m t a v = store-index m t (a % 1048576) a v (index-reduced t a)

pub word-reduced : (m : Buffers) (t : Bool) (a : ℕ) → word_at m t (a % 1048576) ≡ word_at m t a
unfolding word_at
word-reduced m t a = ap₂ word_of (byte-reduced m t a) (byte-index m t (a % 1048576 + 1) (a + 1) (index-after t a 1))

pub store-word-reduced : (m : Buffers) (t : Bool) (a v : ℕ) → store_word m t (a % 1048576) v ≡ store_word m t a v
unfolding store_word
store-word-reduced m t a v =
    rw (store-reduced m t a (v % 256)) (store-index (store_byte m t a (v % 256)) t (a % 1048576 + 1) (a + 1) (v / 256 % 256) (index-after t a 1))
