-- The bytes of both ranges: one more arrives with its store, and whoever leaves both ranges alone leaves them so.
-- Assumes nothing.
use Prim.Native.Nat.{ℕ, ◌+◌, ◌<◌, ◌≤◌}
use mathlib.Core.Bool.{Bool}
use mathlib.Core.Path.{◌≡◌, refl, ◌∙◌}
use native.Mathlib.Decide.{ℕ_discrete}
use native.Mathlib.Nat.{not-suc-le-zero}
use native.Mathlib.Omega.{arith}
use Rattle.ground_rules.proofs.PlaceLaws.{index-apart, later}
use Rattle.ground_rules.proofs.StoreLaws.{store-lent, read_same, read-other}
use Rattle.ground_rules.specs.Buffers.{Buffers, byte_at, store_byte}
use Rattle.ground_rules.specs.declared.Pointer.{Pointer}
use Rattle.ground_rules.proofs.ChoiceLaws.{apart}
use Rattle.block_rules.specs.Premises.{Lent, ShareNone}
use Rattle.block_rules.specs.Rows.{Left}
use Rattle.block_rules.specs.Stages.{RangesHeld}

-- at the start none has arrived
pub held_start : (p q : Pointer) (n : ℕ) (m : Buffers) → Lent m p n → Lent m q n → RangesHeld p q n m 0 m
held_start p q n m l k =
    record {
      arrived = λ i h. absurd (not-suc-le-zero h);
      waiting = λ i h h'. refl;
      kept = λ i h. refl;
      from_lent = l;
      into_lent = k;
    }

-- storing the source's byte j takes j bytes arrived to j + 1
pub put_one : (p q : Pointer) (n : ℕ) (m₀ : Buffers) (j : ℕ) (m : Buffers) (v : ℕ) → ShareNone p q n → n ≤ 65536 → j < n
    → v ≡ byte_at m₀ p.tag (p.address + j) → RangesHeld p q n m₀ j m → RangesHeld p q n m₀ (j + 1) (store_byte m q.tag (q.address + j) v)
put_one p q n m₀ j m v apart most short e h =
    record {
      arrived = λ i l. come i l (ℕ_discrete i j);
      waiting = λ i l l'. read-other m t (q.address + j) v t (q.address + i) (λ _ x. index-apart t q.address j i (omega arith) (omega arith) x) ∙ h.waiting i (omega arith) l';
      kept = λ i l. read-other m t (q.address + j) v p.tag (p.address + i) (apart i j l short) ∙ h.kept i l;
      from_lent = λ i l. store-lent m t p.tag (q.address + j) (p.address + i) v ∙ h.from_lent i l;
      into_lent = λ i l. store-lent m t t (q.address + j) (q.address + i) v ∙ h.into_lent i l;
    }
  where
    t : Bool
    t = q.tag

    m' : Buffers
    m' = store_byte m t (q.address + j) v

    come : (i : ℕ) → i < j + 1 → Dec (i ≡ j) → byte_at m' t (q.address + i) ≡ byte_at m₀ p.tag (p.address + i)
    come i l (yes x) = rw x (read_same m t (q.address + j) v (h.into_lent j short) ∙ e)
    come i l (no ne) = read-other m t (q.address + j) v t (q.address + i) (later t q.address i j (omega arith) (omega arith)) ∙ h.arrived i (omega arith)

-- a store of the source's byte j, read where it stands
pub copy-one : (p q : Pointer) (n : ℕ) (m₀ : Buffers) (j : ℕ) (m : Buffers) → ShareNone p q n → n ≤ 65536 → j < n
    → RangesHeld p q n m₀ j m → RangesHeld p q n m₀ (j + 1) (store_byte m q.tag (q.address + j) (byte_at m p.tag (p.address + j)))
copy-one p q n m₀ j m apart most short h = put_one p q n m₀ j m (byte_at m p.tag (p.address + j)) apart most short (h.kept j short) h

-- and of the next one too, both being read first
pub copy-two : (p q : Pointer) (n : ℕ) (m₀ : Buffers) (j : ℕ) (m : Buffers) → ShareNone p q n → n ≤ 65536 → j + 1 < n
    → RangesHeld p q n m₀ j m
    → RangesHeld p q n m₀ (j + 2)
    (store_byte (store_byte m q.tag (q.address + j) (byte_at m p.tag (p.address + j))) q.tag (q.address + (j + 1)) (byte_at m p.tag (p.address + (j + 1))))
copy-two p q n m₀ j m apart most short h =
    let e : j + 1 + 1 ≡ j + 2 = omega arith in
    rw e at
    (put_one p q n m₀ (j + 1) (store_byte m q.tag (q.address + j) (byte_at m p.tag (p.address + j))) (byte_at m p.tag (p.address + (j + 1)))
    apart most short (h.kept (j + 1) short) (copy-one p q n m₀ j m apart most (omega arith) h))

-- whoever leaves both ranges alone leaves them so
pub held-left : (p q : Pointer) (n : ℕ) (m₀ : Buffers) (j : ℕ) (m m' : Buffers) → j ≤ n → Left p n m m' → Left q n m m' → RangesHeld p q n m₀ j m → RangesHeld p q n m₀ j m'
held-left p q n m₀ j m m' some l k h =
    record {
      arrived = λ i x. k.bytes i (omega arith) ∙ h.arrived i x;
      waiting = λ i x y. k.bytes i y ∙ h.waiting i x y;
      kept = λ i x. l.bytes i x ∙ h.kept i x;
      from_lent = l.lent;
      into_lent = k.lent;
    }
