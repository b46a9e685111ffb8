-- What a change leaves of memory: the bytes that it stores, every other byte, and the lengths.
-- Assumes nothing.
use Prim.Native.Nat.{ℕ, ◌+◌, ◌*◌, ◌/◌, ◌%◌, ◌<◌, ◌≤◌}
use borrow.Author.Tests.{eq-eqb, ne_eqb}
use lib.Dec.{lit<}
use lib.ListN.{length}
use mathlib.Core.Bool.{Bool, true, false}
use mathlib.Core.Path.{◌≡◌, refl, subst, ◌∙◌}
use native.Mathlib.Decide.{ℕ_discrete}
use native.Mathlib.Nat.{mod-lt, add-zero}
use native.Mathlib.Omega.{arith}
use Rattle.ground_rules.proofs.SpanLaws.{apart-at}
use Rattle.ground_rules.proofs.StoreLaws.{store_length, read-other}
use Rattle.ground_rules.specs.Buffers.{Buffers, space_of, byte_at, store_byte}
use Rattle.ground_rules.specs.Places.{Apart, ApartFrom}
use Rattle.ground_rules.specs.Values.{store_pointer}
use Rattle.ground_rules.specs.declared.Pointer.{Pointer}
use Rattle.ground_rules.specs.Stored.{stored_low, stored_middle, stored_high}
use Rattle.instruction_rules.specs.Changes.{places_of, changed, stored_value, pointer_to}
use Rattle.instruction_rules.specs.declared.Change.{Change}

module _ (m : Buffers) (ch : Change) where
  -- the memory after one, two or three stores
  abbrev pub one_stored : Buffers
  one_stored = store_byte m ch.at.tag ch.at.address (ch.value % 256)

  abbrev pub two_stored : Buffers
  two_stored = store_byte one_stored ch.at.tag (ch.at.address + 1) (ch.value / 256 % 256)

  abbrev pub three_stored : Buffers
  three_stored = store_byte two_stored ch.at.tag (ch.at.address + 2) (ch.value / 65536 % 256)

  -- a change makes as many stores as it counts, at most three
  pub stored-none : ch.count ≡ 0 → changed m ch ≡ m
  unfolding changed
  stored-none e = rw (eq-eqb ch.count 0 e)

  pub stored_one : ch.count ≡ 1 → changed m ch ≡ one_stored
  unfolding changed
  stored_one e = rw e

  pub stored-two : ch.count ≡ 2 → changed m ch ≡ two_stored
  unfolding changed
  stored-two e = rw e

  pub stored-three : (ch.count ≡ 0 → ⊥) → (ch.count ≡ 1 → ⊥) → (ch.count ≡ 2 → ⊥) → changed m ch ≡ three_stored
  unfolding changed
  stored-three a b d = rw (ne_eqb ch.count 0 a, ne_eqb ch.count 1 b, ne_eqb ch.count 2 d)

  by_count : (P : Buffers → Type 0) → P m → (1 ≤ ch.count → P one_stored) → (2 ≤ ch.count → P two_stored) → (3 ≤ ch.count → P three_stored) → P (changed m ch)
  by_count P none one two three = go (ℕ_discrete ch.count 0) (ℕ_discrete ch.count 1) (ℕ_discrete ch.count 2)
    where
      go : Dec (ch.count ≡ 0) → Dec (ch.count ≡ 1) → Dec (ch.count ≡ 2) → P (changed m ch)
      go (yes e) b d = rw (stored-none e) none
      go (no a) (yes e) d = rw (stored_one e) (one (omega arith))
      go (no a) (no b) (yes e) = rw (stored-two e) (two (omega arith))
      go (no a) (no b) (no d) = rw (stored-three a b d) (three (omega arith))

  -- it alters no length
  pub change-length : (u : Bool) → length (space_of (changed m ch) u) ≡ length (space_of m u)
  change-length u = by_count (λ x. length (space_of x u) ≡ length (space_of m u)) refl (λ h. one) (λ h. two) (λ h. store_length two_stored ch.at.tag u (ch.at.address + 2) (ch.value / 65536 % 256) ∙ two)
    where
      one : length (space_of one_stored u) ≡ length (space_of m u)
      one = store_length m ch.at.tag u ch.at.address (ch.value % 256)

      two : length (space_of two_stored u) ≡ length (space_of m u)
      two = store_length one_stored ch.at.tag u (ch.at.address + 1) (ch.value / 256 % 256) ∙ one

  -- and no byte but those of its places
  pub change-other : (u : Bool) (b : ℕ) → ApartFrom (places_of ch) u b → byte_at (changed m ch) u b ≡ byte_at m u b
  unfolding places_of
  change-other u b h = by_count (λ x. byte_at x u b ≡ byte_at m u b) refl one two (λ k. read-other two_stored ch.at.tag (ch.at.address + 2) (ch.value / 65536 % 256) u b (from 2 k) ∙ two (omega arith))
    where
      from : (k : ℕ) → k < ch.count → Apart ch.at.tag (ch.at.address + k) u b
      from k l = apart-at ch.at.tag ch.at.address ch.count k u b h l

      one : 1 ≤ ch.count → byte_at one_stored u b ≡ byte_at m u b
      one k = read-other m ch.at.tag ch.at.address (ch.value % 256) u b (subst (λ (a : ℕ). Apart ch.at.tag a u b) (add-zero ch.at.address) (from 0 k))

      two : 2 ≤ ch.count → byte_at two_stored u b ≡ byte_at m u b
      two k = read-other one_stored ch.at.tag (ch.at.address + 1) (ch.value / 256 % 256) u b (from 1 k) ∙ one (omega arith)

-- three bytes as one number, and back
low-back : (x y z : ℕ) → x < 256 → (x + y * 256 + z * 65536) % 256 ≡ x
low-back x y z h = omega arith

middle-back : (x y z : ℕ) → x < 256 → y < 256 → (x + y * 256 + z * 65536) / 256 % 256 ≡ y
middle-back x y z h k = omega arith

high-back : (x y z : ℕ) → x < 256 → y < 256 → z < 256 → (x + y * 256 + z * 65536) / 65536 % 256 ≡ z
high-back x y z h k l = omega arith

high_small : (address : ℕ) (tag : Bool) → stored_high address tag < 256
high_small address true = omega arith
high_small address false = omega arith

-- a pointer is stored in its three bytes
pub pointer-changed : (m : Buffers) (at p : Pointer) → changed m (pointer_to at p) ≡ store_pointer m at.tag at.address p
unfolding changed store_pointer stored_value
pointer-changed m at p =
    let x = stored_low p.address in
    let y = stored_middle p.address in
    let z = stored_high p.address p.tag in
    let low : x < 256 = mod-lt p.address (lit< tt) in
    let middle : y < 256 = mod-lt (p.address / 256) (lit< tt) in
    rw (low-back x y z low, middle-back x y z low middle, high-back x y z low middle (high_small p.address p.tag))
