-- The laws of stages: 2 is given exactly where a byte that the call would touch, up to where it stops, may not be touched.
-- Assumes nothing.
use Prim.Native.Nat.{ℕ, zero, suc}
use borrow.Author.Tests.{eqb-false}
use lib.Dec.{eqb, eqb-suc-zero}
use mathlib.Core.Bool.{Bool, true, false, ◌&&◌}
use mathlib.Core.List.{List, [], ◌∷◌}
use mathlib.Core.Logic.Iff
use mathlib.Core.Logic.{◌↔◌}
use mathlib.Core.Path.{◌≡◌, refl, ap, ◌∙◌}
use native.Mathlib.Omega.{arith}
use Rattle.ground_rules.proofs.SpanLaws.{all_append}
use Rattle.ground_rules.specs.Buffers.{Buffers, touchable_at}
use Rattle.ground_rules.specs.Places.{Place, all_pass, all_touchable}
use Rattle.ground_rules.proofs.ChoiceLaws.{apart}
use Rattle.ground_rules.specs.Choice.{pick}
use Rattle.ground_rules.specs.Conditions.{Beyond}
use Rattle.ground_rules.specs.Outcomes.{unless, first}
use Rattle.ground_rules.specs.Stages.{Stage, stages_number, stages_touched, JudgedElse}
use Rattle.ground_rules.proofs.ConditionLaws.{told-exactly, told-touchable}

-- the number of a stage and those after it, by whether its bytes may be touched and by what it judges
one : Bool → ℕ → ℕ → ℕ
one touchable judged rest = first (unless touchable 2) (first judged rest)

-- whether its bytes and those of the stages that follow may be touched
all : Bool → ℕ → Bool → Bool
all touchable judged rest = touchable && pick (eqb judged 0) rest true

-- of a stage and those after it, 2 is given exactly where a byte may not be touched
two-one : (touchable : Bool) (judged rest : ℕ) (others : Bool) → eqb judged 2 ≡ false → (rest ≡ 2) ↔ (others ≡ false) → (one touchable judged rest ≡ 2) ↔ (all touchable judged others ≡ false)
unfolding one all first unless
two-one false judged rest others ne q = (λ e. refl, λ e. refl)
two-one true zero rest others ne q = q
two-one true (suc k) rest others ne q = rw (eqb-suc-zero k) (λ e. absurd (eqb-false (suc k) 2 ne e), λ e. apart e)

-- and where no stage refuses, every byte may be touched
none-one : (touchable : Bool) (judged rest : ℕ) (others : Bool) → (rest ≡ 0 → others ≡ true) → one touchable judged rest ≡ 0 → all touchable judged others ≡ true
unfolding one all first unless
none-one false judged rest others q e = absurd (omega (arith, e))
none-one true zero rest others q e = q e
none-one true (suc k) rest others q e = rw (eqb-suc-zero k) refl

-- no byte touched is none that may not be
nothing-touched : (m : Buffers) → all_touchable m (stages_touched []) ≡ true
unfolding stages_touched all_pass
nothing-touched m = refl

-- some bytes or none
chosen : (m : Buffers) (ps : List Place) (b : Bool) → all_touchable m (pick b ps []) ≡ pick b (all_touchable m ps) true
unfolding all_pass
chosen m ps true = refl
chosen m ps false = refl

-- the bytes touched by a stage and those after it
touched-one : (m : Buffers) (s : Stage) (rest : List Stage) → all_touchable m (stages_touched (s ∷ rest)) ≡ all (all_touchable m s.places) s.judged (all_touchable m (stages_touched rest))
unfolding stages_touched all
touched-one m s rest = all_append (touchable_at m) s.places _ ∙ ap (λ (b : Bool). all_touchable m s.places && b) (chosen m (stages_touched rest) (eqb s.judged 0))

-- 2 exactly where some byte that the call would touch, up to the stage where it stops, may not be touched
pub two-exactly : (m : Buffers) (stages : List Stage) → JudgedElse stages → (stages_number m stages ≡ 2) ↔ (all_touchable m (stages_touched stages) ≡ false)
unfolding stages_number one
two-exactly m [] h = rw (nothing-touched m) (λ e. absurd (omega (arith, e)), λ e. apart e)
two-exactly m (s ∷ rest) h =
    rw (touched-one m s rest) (two-one (all_touchable m s.places) s.judged (stages_number m rest) (all_touchable m (stages_touched rest)) h.0 (two-exactly m rest h.1))

-- the same, said by where that byte lies
pub beyond-exactly : (m : Buffers) (stages : List Stage) → JudgedElse stages → (stages_number m stages ≡ 2) ↔ Beyond m (stages_touched stages)
beyond-exactly m stages h = Iff.trans (two-exactly m stages h) (told-exactly (told-touchable m (stages_touched stages)))

-- a call that no stage refuses touches no byte of system space that is not lent
pub none-refused : (m : Buffers) (stages : List Stage) → stages_number m stages ≡ 0 → all_touchable m (stages_touched stages) ≡ true
unfolding stages_number one
none-refused m [] e = nothing-touched m
none-refused m (s ∷ rest) e =
    touched-one m s rest ∙ none-one (all_touchable m s.places) s.judged (stages_number m rest) (all_touchable m (stages_touched rest)) (none-refused m rest) e
