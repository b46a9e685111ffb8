-- The laws of a line end: none, LF, or CR LF.
-- Assumes nothing.
use Prim.Native.Nat.{ℕ}
use borrow.Author.Tests.{ne_eqb}
use lib.ListN.{length, drop}
use mathlib.Core.Bool.{true, false}
use mathlib.Core.List.{List, [], ◌∷◌}
use mathlib.Core.Path.{◌≡◌, refl}
use native.Mathlib.Omega.{arith}
use Rattle.prom_rules.specs.Text.{begins_lf}
use Rattle.prom.specs.Parts.{ends_here, end_length}

-- a line ends with the text
pub end-none : (t : List ℕ) → length t ≡ 0 → (ends_here t ≡ true) × (t ≡ drop (end_length t) t)
unfolding ends_here end_length
end-none [] h = (refl, refl)
end-none (b ∷ bs) h = absurd (omega (arith, h))

module _ (t : List ℕ) (b : ℕ) (r : List ℕ) (e : t ≡ b ∷ r) where
  -- at an LF
  pub end-feed : b ≡ 10 → (ends_here t ≡ true) × (r ≡ drop (end_length t) t)
  unfolding ends_here end_length
  end-feed f = rw (e, f) (refl, refl)

  module _ (f : b ≡ 13) where
    -- at a CR and an LF
    pub end-return : (d : ℕ) (s : List ℕ) → r ≡ d ∷ s → d ≡ 10 → (ends_here t ≡ true) × (s ≡ drop (end_length t) t)
    unfolding ends_here end_length begins_lf
    end-return d s g h = rw (e, f, g, h) (refl, refl)

    -- not at a CR alone
    pub end-alone : length r ≡ 0 → ends_here t ≡ false
    unfolding ends_here begins_lf
    end-alone h = rw (e, f) (go r h)
      where
        go : (r : List ℕ) → length r ≡ 0 → begins_lf r ≡ false
        go [] h = refl
        go (d ∷ s) h = absurd (omega (arith, h))

    pub end-broken : (d : ℕ) (s : List ℕ) → r ≡ d ∷ s → (d ≡ 10 → ⊥) → ends_here t ≡ false
    unfolding ends_here begins_lf
    end-broken d s g h = rw (e, f, g) (ne_eqb d 10 h)

  -- nor at any other byte
  pub end-other : (b ≡ 10 → ⊥) → (b ≡ 13 → ⊥) → ends_here t ≡ false
  unfolding ends_here
  end-other n m = rw (e, ne_eqb b 10 n, ne_eqb b 13 m)
