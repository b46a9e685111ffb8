-- The laws of a choice and of tests joined.
-- Assumes nothing.
use mathlib.Core.Bool.{Bool, true, false, ◌&&◌, ◌||◌}
use mathlib.Core.Path.{◌≡◌, refl, sym, subst}
use Rattle.ground_rules.specs.Choice.{pick}

-- a choice between equals
pub pick_same {ℓ} : {A : Type ℓ} (b : Bool) (a : A) → pick b a a ≡ a
pick_same true a = refl
pick_same false a = refl

-- true is not false
pub apart {ℓ} : {A : Type ℓ} → true ≡ false → A
apart h = absurd (subst (λ (x : Bool). pick x (Unit {0}) ⊥) h tt)

-- both of two tests hold
pub both_left : (a b : Bool) → a && b ≡ true → a ≡ true
both_left true b h = refl
both_left false b h = h

pub both_right : (a b : Bool) → a && b ≡ true → b ≡ true
both_right true b h = h
both_right false b h = apart (sym h)

-- a test joined with one that is known
pub and-true : (b : Bool) → b && true ≡ b
and-true true = refl
and-true false = refl

pub and-false : (b : Bool) → b && false ≡ false
and-false true = refl
and-false false = refl

pub or-true : (b : Bool) → b || true ≡ true
or-true true = refl
or-true false = refl

pub or-false : (b : Bool) → b || false ≡ b
or-false true = refl
or-false false = refl

-- two values that a test swapped, swapped again
pub pick-back : {A : Type 0} (b : Bool) (x y : A) → pick b (pick b x y) (pick b y x) ≡ x
pick-back true x y = refl
pick-back false x y = refl

-- a function of each of two, or of the one chosen
pub pick_under : {A B : Type 0} (f : A → B) (b : Bool) (x y : A) → pick b (f x) (f y) ≡ f (pick b x y)
pick_under f true x y = refl
pick_under f false x y = refl
