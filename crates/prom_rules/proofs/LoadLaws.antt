-- The laws of the call: what it leaves in each of its four cases, and that a bad file changes nothing.
-- Assumes nothing.
use Prim.Native.Nat.{ℕ}
use borrow.Author.Tests.{eq-eqb, ne_eqb}
use mathlib.Core.Bool.{Bool, true, false}
use mathlib.Core.List.{List}
use mathlib.Core.Path.{◌≡◌, refl}
use native.Mathlib.Decide.{ℕ_discrete}
use Rattle.ground_rules.specs.Buffers.{Buffers, within_limits}
use Rattle.prom_rules.specs.Load.{Loading, loading, beyond_line, store_all, text_file, hex_placed, load_of}

module _ (t : List ℕ) (m : Buffers) where
  -- memory over its limit
  pub load-long : within_limits m ≡ false → load_of t m ≡ loading 11 0 0 m
  unfolding load_of
  load-long h = rw h

  module _ (h : within_limits m ≡ true) where
    -- a bad file
    pub load-bad : ((text_file t).number ≡ 0 → ⊥) → load_of t m ≡ loading (text_file t).number 0 (text_file t).line m
    unfolding load_of
    load-bad ne = rw (h, ne_eqb (text_file t).number 0 ne)

    module _ (e : (text_file t).number ≡ 0) where
      -- a good one that reaches beyond memory
      pub load-beyond : (beyond_line m (text_file t).stores ≡ 0 → ⊥) → load_of t m ≡ loading 2 0 (beyond_line m (text_file t).stores) m
      unfolding load_of hex_placed
      load-beyond ne = rw (h, eq-eqb (text_file t).number 0 e, ne_eqb (beyond_line m (text_file t).stores) 0 ne)

      -- a good one that does not
      pub load-done : beyond_line m (text_file t).stores ≡ 0 → load_of t m ≡ loading 0 (text_file t).start 0 (store_all m (text_file t).stores)
      unfolding load_of hex_placed
      load-done z = rw (h, eq-eqb (text_file t).number 0 e, eq-eqb (beyond_line m (text_file t).stores) 0 z)

  -- what holds of each case holds of the call
  pub load-by : (P : Loading → Type 0)
      → (within_limits m ≡ false → P (loading 11 0 0 m))
      → (within_limits m ≡ true → ((text_file t).number ≡ 0 → ⊥) → P (loading (text_file t).number 0 (text_file t).line m))
      → (within_limits m ≡ true → (text_file t).number ≡ 0 → (beyond_line m (text_file t).stores ≡ 0 → ⊥) → P (loading 2 0 (beyond_line m (text_file t).stores) m))
      → (within_limits m ≡ true → (text_file t).number ≡ 0 → beyond_line m (text_file t).stores ≡ 0 → P (loading 0 (text_file t).start 0 (store_all m (text_file t).stores)))
      → P (load_of t m)
  load-by P long bad beyond done = go (within_limits m) refl (ℕ_discrete (text_file t).number 0) (ℕ_discrete (beyond_line m (text_file t).stores) 0)
    where
      go : (x : Bool) → within_limits m ≡ x → Dec ((text_file t).number ≡ 0) → Dec (beyond_line m (text_file t).stores ≡ 0) → P (load_of t m)
      go false h d d' = rw (load-long h) (long h)
      go true h (no e) d' = rw (load-bad h e) (bad h e)
      go true h (yes e) (no z) = rw (load-beyond h e z) (beyond h e z)
      go true h (yes e) (yes z) = rw (load-done h e z) (done h e z)

  -- a refused call leaves memory as it was, and reports no start address
  pub refused-nothing : ((load_of t m).number ≡ 0 → ⊥) → ((load_of t m).memory ≡ m) × ((load_of t m).start ≡ 0)
  refused-nothing =
      load-by (λ (r : Loading). (r.number ≡ 0 → ⊥) → (r.memory ≡ m) × (r.start ≡ 0))
      (λ h ne. (refl, refl)) (λ h e ne. (refl, refl)) (λ h e z ne. (refl, refl)) (λ h e z ne. absurd (ne refl))
