-- Bytes that stand in memory: further on among them, and after a change that leaves them alone.
-- Assumes nothing.
use Prim.Native.Nat.{ℕ, zero, suc, ◌+◌, ◌%◌, ◌<◌, ◌≤◌}
use lib.ListN.{length, get_or, drop, length-drop}
use lib.Seq.{get_or-drop}
use mathlib.Core.Bool.{Bool, true, ◌&&◌}
use mathlib.Core.List.{List}
use mathlib.Core.Path.{◌≡◌, refl, sym, ap, ap₂, ◌∙◌}
use native.Mathlib.Nat.{add-zero, add_assoc}
use native.Mathlib.Omega.{arith}
use Rattle.ground_rules.specs.Values.{onward}
use Rattle.ground_rules.proofs.PlaceLaws.{index-after, lent-index, byte-index}
use Rattle.ground_rules.proofs.StoreLaws.{lent-touchable}
use Rattle.ground_rules.specs.Buffers.{Buffers, index_of, lent_at, byte_at}
use Rattle.ground_rules.specs.Places.{span, all_pass, all_touchable}
use Rattle.ground_rules.specs.declared.Pointer.{Pointer}
use Rattle.promises.specs.Cases.{Stand}
use Rattle.block_rules.specs.Premises.{Lent}

-- bytes in a row that are lent may be touched, as a list of places
pub span-touchable : (m : Buffers) (t : Bool) (a n : ℕ) → ((i : ℕ) → i < n → lent_at m t (a + i) ≡ true) → all_touchable m (span t a n) ≡ true
unfolding span all_pass
span-touchable m t a zero h = refl
span-touchable m t a (suc n) h =
    ap₂ ◌&&◌ (lent-touchable m t a (ap (lent_at m t) (sym (add-zero a)) ∙ h 0 (omega arith)))
    (span-touchable m t (a + 1) n (λ i l. let e : a + 1 + i ≡ a + suc i = omega arith in ap (lent_at m t) e ∙ h (suc i) (omega arith)))

-- the address i after one that is k on
pub on-index : (p : Pointer) (k i : ℕ) → index_of p.tag ((p.address + k) % 1048576 + i) ≡ index_of p.tag (p.address + (k + i))
on-index p k i = index-after p.tag (p.address + k) i ∙ ap (index_of p.tag) (add_assoc p.address k i)

-- a range that is lent is lent from k on
pub lent-on : (m : Buffers) (p : Pointer) (k n : ℕ) → Lent m p (k + n) → Lent m (onward p k) n
unfolding onward
lent-on m p k n h i l = lent-index m p.tag ((p.address + k) % 1048576 + i) (p.address + (k + i)) (on-index p k i) ∙ h (k + i) (omega arith)

module _ {m : Buffers} {p : Pointer} {bytes : List ℕ} (there : Stand m p bytes) where
  -- from the k-th on the rest of them stands
  pub stand-on : (k : ℕ) → Stand m (onward p k) (drop k bytes)
  unfolding onward
  stand-on k = record { lent = lent; read = read }
    where
      within : (i : ℕ) → i < length (drop k bytes) → k + i < length bytes
      within i h = omega (arith, h, length-drop k bytes)

      lent : Lent m (onward p k) (length (drop k bytes))
      lent i h = lent-index m p.tag ((p.address + k) % 1048576 + i) (p.address + (k + i)) (on-index p k i) ∙ there.lent (k + i) (within i h)

      read : (i : ℕ) → i < length (drop k bytes) → byte_at m p.tag ((p.address + k) % 1048576 + i) ≡ get_or (drop k bytes) i 0
      read i h =
          byte-index m p.tag ((p.address + k) % 1048576 + i) (p.address + (k + i)) (on-index p k i)
          ∙ there.read (k + i) (within i h)
          ∙ sym (get_or-drop k bytes i 0)

  -- n of them from the k-th on may be touched
  pub rest-touchable : (k n : ℕ) → k + n ≤ length bytes → all_touchable m (span p.tag ((p.address + k) % 1048576) n) ≡ true
  unfolding onward
  rest-touchable k n h = span-touchable m p.tag ((p.address + k) % 1048576) n (λ i l. (stand-on k).lent i (omega (arith, l, h, length-drop k bytes)))

  -- in a memory of the same lengths that has each of them as it was, they stand too
  pub stand-kept : (m' : Buffers) → ((u : Bool) (a : ℕ) → lent_at m' u a ≡ lent_at m u a)
      → ((i : ℕ) → i < length bytes → byte_at m' p.tag (p.address + i) ≡ byte_at m p.tag (p.address + i)) → Stand m' p bytes
  stand-kept m' l e =
      record {
        lent = λ i h. l p.tag (p.address + i) ∙ there.lent i h;
        read = λ i h. e i h ∙ there.read i h;
      }
