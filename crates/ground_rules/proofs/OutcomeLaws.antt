-- The laws of refusals in their order, and of an outcome that a refusal settles.
-- Assumes nothing.
use Prim.Native.Nat.{ℕ, zero, suc}
use borrow.Author.Tests.{eq-eqb, ne_eqb}
use lib.Dec.{eqb, eqb-suc-zero}
use lib.ListN.{length}
use mathlib.Core.Bool.{Bool, true, false, ◌&&◌}
use mathlib.Core.List.{List}
use mathlib.Core.Path.{◌≡◌, refl}
use Rattle.ground_rules.specs.Buffers.{Buffers}
use Rattle.ground_rules.specs.Places.{Place}
use Rattle.ground_rules.specs.Choice.{pick}
use Rattle.ground_rules.specs.Outcomes.{outcome, unless, first, settled, counted}
use Rattle.ground_rules.specs.declared.State.{State}

-- a refused call is the given state and memories
pub refused : (number : ℕ) (s : State) (m : Buffers) (s' : State) (m' : Buffers) → (number ≡ 0 → ⊥) → settled number s m s' m' ≡ outcome number s m
unfolding settled
refused number s m s' m' ne = rw (ne_eqb number 0 ne)

-- a call that is not refused is what it does
pub accepted : (number : ℕ) (s : State) (m : Buffers) (s' : State) (m' : Buffers) → number ≡ 0 → settled number s m s' m' ≡ outcome 0 s' m'
unfolding settled
accepted number s m s' m' e = rw (eq-eqb number 0 e)

-- the number of an outcome is the number that settled it
pub settled-number : (number : ℕ) (s : State) (m : Buffers) (s' : State) (m' : Buffers) → (settled number s m s' m').number ≡ number
unfolding settled
settled-number zero s m s' m' = refl
settled-number (suc n) s m s' m' = rw (eqb-suc-zero n)

-- a refused call counts nothing, a done one its list
pub refused-counts : (number : ℕ) (ps : List Place) → (number ≡ 0 → ⊥) → counted number ps ≡ 0
unfolding counted
refused-counts number ps ne = rw (ne_eqb number 0 ne)

pub done-counts : (number : ℕ) (ps : List Place) → number ≡ 0 → counted number ps ≡ length ps
unfolding counted
done-counts number ps e = rw (eq-eqb number 0 e)

-- where the first is none, the second decides; where it is one, it does
pub first-none : (a b : ℕ) → a ≡ 0 → first a b ≡ b
unfolding first
first-none a b e = rw (eq-eqb a 0 e)

pub first_some : (a b : ℕ) → (a ≡ 0 → ⊥) → first a b ≡ a
unfolding first
first_some a b ne = rw (ne_eqb a 0 ne)

pub first-zero : (b : ℕ) → first 0 b ≡ b
unfolding first
first-zero b = refl

pub first-right : (a : ℕ) → first a 0 ≡ a
unfolding first
first-right zero = refl
first-right (suc a) = rw (eqb-suc-zero a)

-- a test that holds refuses nothing
pub unless-true : (number : ℕ) → unless true number ≡ 0
unfolding unless
unless-true number = refl

pub unless-false : (number : ℕ) → unless false number ≡ number
unfolding unless
unless-false number = refl

-- what holds of the given state and of the one that is made holds of the one that a call leaves
pub settled-state : (P : State → Type 0) (number : ℕ) (s : State) (m : Buffers) (s' : State) (m' : Buffers) → P s → P s' → P (settled number s m s' m').state
unfolding settled
settled-state P number s m s' m' p q = go (eqb number 0)
  where
    go : (b : Bool) → P (pick b (outcome 0 s' m') (outcome number s m)).state
    go true = q
    go false = p

-- bytes read and bytes stored to, tested at once or one after the other
pub both-tested : (a b : Bool) → first (unless (a && b) 2) (first 0 0) ≡ first (unless a 2) (unless b 2)
unfolding first unless
both-tested true true = refl
both-tested true false = refl
both-tested false b = refl
