-- Memories by their bytes: two of the same lengths with the same bytes are the same; and what a block leaves that was copied byte by byte.
-- Assumes nothing.
use Prim.Native.Nat.{ℕ, zero, suc, ◌+◌, ◌-◌, ◌<◌, ◌≤◌}
use lib.ListN.{length, get_or}
use lib.Seq.{ext_get_or}
use mathlib.Core.Bool.{Bool, true, false, Bool-discrete}
use mathlib.Core.Path.{◌≡◌, sym, subst, ◌∙◌}
use native.Mathlib.Decide.{dec_lt, dec_le}
use native.Mathlib.Numerals.{add-one}
use native.Mathlib.Omega.{arith}
use Rattle.ground_rules.specs.Buffers.{Buffers, buffers, space_of, limit_of, index_of, beyond_in, byte_at, within_limits}
use Rattle.ground_rules.specs.declared.Pointer.{Pointer}
use Rattle.sweep_rules.specs.Copies.{copied_on}
use Rattle.sweep_rules.specs.Ranges.{place_of}
use Rattle.sweep_rules.specs.Conditions.{RangeLent}
use Rattle.block_rules.proofs.HeldLaws.{held_start, copy-one}
use Rattle.turn_rules.proofs.SoundLaws.{limits-kept}
use Rattle.block_rules.specs.Premises.{Lent, ShareNone}
use Rattle.block_rules.specs.Stages.{RangesHeld, Outside, Within}
use Rattle.sweep_rules.proofs.PassedLaws.{length_most}
use Rattle.sweep_rules.proofs.RangeLaws.{index_on}

-- an address below a space's limit is its own index
index-self : (t : Bool) (i : ℕ) → i < limit_of t → index_of t i ≡ i
unfolding index_of limit_of
index-self true i h = omega arith
index-self false i h = omega arith

-- two memories of the same lengths, within the limits, that read the same everywhere are the same
pub same_memory : (m m' : Buffers) → within_limits m ≡ true → ((u : Bool) → length (space_of m' u) ≡ length (space_of m u))
    → ((u : Bool) (a : ℕ) → byte_at m' u a ≡ byte_at m u a) → m' ≡ m
unfolding byte_at space_of
same_memory m m' w e h = λ i. buffers (space false i) (space true i)
  where
    space : (u : Bool) → space_of m' u ≡ space_of m u
    space u =
        ext_get_or (beyond_in u) (space_of m' u) (space_of m u) (e u)
        (λ i l.
        let x : index_of u i ≡ i = index-self u i (omega (arith, length_most m u w, e u)) in
        subst (λ (j : ℕ). get_or (space_of m' u) j (beyond_in u) ≡ get_or (space_of m u) j (beyond_in u)) x (h u i))

-- a byte is one of a range, or none of it
module _ (m : Buffers) (q : Pointer) (n : ℕ) (w : within_limits m ≡ true) (r : RangeLent m q n) where
  on : (k : ℕ) → k < n → index_of q.tag (q.address + k) ≡ place_of q + k
  on k h = index_on q.tag q.address k (length (space_of m q.tag)) (omega arith) (length_most m q.tag w)

  pub by-range : (P : Bool → ℕ → Type 0) → ((u : Bool) (a : ℕ) → Outside q n u a → P u a)
      → ((k : ℕ) → k < n → (a : ℕ) → index_of q.tag a ≡ index_of q.tag (q.address + k) → P q.tag a) → (u : Bool) (a : ℕ) → P u a
  by-range P out inside u a = go (Bool-discrete q.tag u)
    where
      go : Dec (q.tag ≡ u) → P u a
      go (no ne) = out u a (λ k h e. absurd (ne e))
      go (yes t) = subst (λ (x : Bool). P x a) t (here (dec_le (place_of q) (index_of q.tag a)) (dec_lt (index_of q.tag a) (place_of q + n)))
        where
          here : Dec (place_of q ≤ index_of q.tag a) → Dec (index_of q.tag a < place_of q + n) → P q.tag a
          here (yes l) (yes g) =
              let k : ℕ = index_of q.tag a - place_of q in
              let lt : k < n = omega arith in
              inside k lt a (sym (on k lt ∙ omega arith))
          here (no l) g = out q.tag a (λ k h e i. let x : place_of q + k ≡ index_of q.tag a = sym (on k h) ∙ i in omega arith)
          here (yes l) (no g) = out q.tag a (λ k h e i. let x : place_of q + k ≡ index_of q.tag a = sym (on k h) ∙ i in omega arith)

  -- so two memories that differ at most in a range, and agree there, are the same
  pub same_in : (m' m'' : Buffers) → Within q n m m' → Within q n m m''
      → ((k : ℕ) → k < n → byte_at m' q.tag (q.address + k) ≡ byte_at m'' q.tag (q.address + k)) → m' ≡ m''
  unfolding byte_at
  same_in m' m'' a b h =
      same_memory m'' m' (limits-kept m m'' b.lengths ∙ w) (λ u. a.lengths u ∙ sym (b.lengths u))
      (by-range (λ u x. byte_at m' u x ≡ byte_at m'' u x)
      (λ u x o. a.others u x o ∙ sym (b.others u x o))
      (λ k l x e. subst (λ (j : ℕ). get_or (space_of m' q.tag) j (beyond_in q.tag) ≡ get_or (space_of m'' q.tag) j (beyond_in q.tag)) (sym e) (h k l)))

-- ---- a block copied byte by byte

module _ (m : Buffers) (p q : Pointer) (n : ℕ) (most : n ≤ 65536) (apart : ShareNone p q n) (fl : Lent m p n) (il : Lent m q n) where
  -- when j bytes have been put, just those have arrived
  pub copied-held : (j : ℕ) → j ≤ n → RangesHeld p q n m j (copied_on m p q j)
  unfolding copied_on
  copied-held zero h = held_start p q n m fl il
  copied-held (suc j) h = rw add-one at (copy-one p q n m j (copied_on m p q j) apart most h (copied-held j (omega arith)))
