-- The totals of a transfer by its sides, and the bytes of pointers: what cases 5, 6 and 8 to 11 of the table rest on.
-- Assumes nothing.
use Prim.Native.Nat.{ℕ, zero, suc, ◌+◌, ◌/◌, ◌%◌, ◌<◌, ◌≤◌}
use lib.Dec.{lit<}
use lib.ListN.{length, get_or}
use mathlib.Core.Bool.{Bool, true, false}
use mathlib.Core.List.{List}
use mathlib.Core.Path.{◌≡◌, sym, ap, ap₂, subst, ◌∙◌}
use native.Mathlib.Nat.{add-zero}
use native.Mathlib.Omega.{arith}
use Rattle.ground_rules.specs.States.{channel_of}
use Rattle.ground_rules.specs.declared.Channel.{Channel}
use Rattle.ground_rules.proofs.StoreLaws.{store-lent, pointer-bytes}
use Rattle.ground_rules.specs.Buffers.{Buffers, lent_at, byte_at}
use Rattle.ground_rules.specs.Values.{word_at, doubleword_at, store_pointer}
use Rattle.ground_rules.specs.declared.Pointer.{Pointer}
use Rattle.transfer_rules.proofs.BlockLaws.{word-narrow, word-odd, word_even}
use Rattle.transfer_rules.specs.Sides.{source, destination}
use Rattle.ground_rules.specs.Bytes.{word_of}
use Rattle.ground_rules.specs.Sums.{address_of}
use Rattle.promises.specs.Calls.{EndsAtCall}
use Rattle.promises.specs.Cases.{Stand, stored_form, Both8, Both16Even, Both16Odd, From16OddInto8, Takes}
use Rattle.block_rules.specs.Premises.{Lent}
use Rattle.block_rules.specs.Totals.{narrow, total}
use Rattle.block_rules.proofs.CountLaws.{total-narrow, total-wide, alone-none, alone-one}
use Rattle.promises.proofs.InstructionLaws.{word-at}
use Rattle.promises.proofs.MachineLaws.{demand3-calls}

-- ---- pointers

-- a stored pointer stands in memory as its three bytes
pub stored-stands : (m : Buffers) (at : Pointer) (p : Pointer) → Lent m at 3 → Stand (store_pointer m at.tag at.address p) at (stored_form p)
unfolding store_pointer
stored-stands m at p h = record { lent = lent; read = read }
  where
    t : Bool
    t = at.tag

    a : ℕ
    a = at.address

    lent : Lent (store_pointer m t a p) at 3
    lent i k =
        store-lent _ t t (a + 2) (a + i) _ ∙ store-lent _ t t (a + 1) (a + i) _ ∙ store-lent m t t a (a + i) _ ∙ h i k

    bytes : (byte_at (store_pointer m t a p) t a ≡ get_or (stored_form p) 0 0) × (byte_at (store_pointer m t a p) t (a + 1) ≡ get_or (stored_form p) 1 0)
        × (byte_at (store_pointer m t a p) t (a + 2) ≡ get_or (stored_form p) 2 0)
    bytes = pointer-bytes m t a p (ap (lent_at m t) (sym (add-zero a)) ∙ h 0 (lit< tt)) (h 1 (lit< tt)) (h 2 (lit< tt))

    read : (i : ℕ) → i < 3 → byte_at (store_pointer m t a p) t (a + i) ≡ get_or (stored_form p) i 0
    read zero k = ap (byte_at (store_pointer m t a p) t) (add-zero a) ∙ bytes.0
    read (suc zero) k = bytes.1
    read (suc (suc zero)) k = bytes.2
    read (suc (suc (suc i))) k = absurd (omega arith)

-- four bytes give the address of their offset and segment
pub pointer-given : (m : Buffers) (at : Pointer) (bytes : List ℕ) → Stand m at bytes → 3 < length bytes
    → doubleword_at m at.tag at.address ≡ address_of (word_of (get_or bytes 0 0) (get_or bytes 1 0)) (word_of (get_or bytes 2 0) (get_or bytes 3 0))
unfolding doubleword_at
pointer-given m at bytes there h =
    ap₂ address_of
    (ap (word_at m at.tag) (sym (add-zero at.address)) ∙ word-at there 0 (omega arith))
    (word-at there 2 (omega arith))

-- ---- totals

-- both widths 8: n
pub total-8 : (c : Channel) (n : ℕ) → Both8 c → 1 ≤ n → total c n ≡ n
unfolding narrow
total-8 c n w h = total-narrow c n (rw (w.0, w.1))

-- a source of 16 bits is wide
wide-16 : (c : Channel) → (source c).wide ≡ true → narrow c ≡ false
unfolding narrow
wide-16 c w = rw w

-- both 16 and even: half of n, rounded up
pub total-even : (c : Channel) (n : ℕ) → Both16Even c → 1 ≤ n → total c n ≡ (n + 1) / 2
total-even c n w h =
    total-wide c n (wide-16 c w.0.0)
    ∙ rw (alone-none c (rw (word_even (source c) w.0.0 w.1))) (omega arith)

-- both 16 and odd: one byte, then half of the others, rounded up
pub total-odd : (c : Channel) (n : ℕ) → Both16Odd c → 1 ≤ n → total c n ≡ 1 + n / 2
total-odd c n w h =
    total-wide c n (wide-16 c w.0.0)
    ∙ rw (alone-one c (rw (word-odd (source c) w.1, word-odd (destination c) w.2))) (omega arith)

-- so too from 16 at an odd address into 8
pub total-mixed : (c : Channel) (n : ℕ) → From16OddInto8 c → 1 ≤ n → total c n ≡ 1 + n / 2
total-mixed c n w h =
    total-wide c n (wide-16 c w.0)
    ∙ rw (alone-one c (rw (word-odd (source c) w.2, word-narrow (destination c) w.1))) (omega arith)

-- a transfer whose total is known of every n ends there; n is what its first count stands for, 0 for 65,536
pub takes : {sides : Channel → Type 0} {count k : ℕ} {of : ℕ → ℕ} → ((c : Channel) (n : ℕ) → sides c → 1 ≤ n → total c n ≡ of n)
    → ((n : ℕ) → 1 ≤ n → n ≤ 65536 → count ≡ n % 65536 → of n ≡ k) → Takes sides count k
takes known at b s m n p z w =
    subst (λ (x : ℕ). EndsAtCall b n s m x) (known (channel_of s b) n w p.some ∙ at n p.some p.most (sym z ∙ p.count)) (demand3-calls p)
