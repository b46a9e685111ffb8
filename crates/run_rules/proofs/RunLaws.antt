-- The laws of the steps of a run, one step at a time.
-- Assumes nothing.
use Prim.Native.Nat.{ℕ, zero, suc, ◌+◌, ◌-◌, ◌<◌}
use borrow.Author.Tests.{ltb-true, eqb-false, eq-eqb, ne_eqb}
use lib.Dec.{ltb}
use mathlib.Core.Bool.{Bool, true, false, ◌&&◌}
use mathlib.Core.Path.{◌≡◌, refl, sym, ap, ◌∙◌}
use native.Mathlib.Nat.{not-suc-le-zero}
use native.Mathlib.Omega.{arith}
use Rattle.ground_rules.specs.Outcomes.{unless, first}
use Rattle.ground_rules.specs.States.{is_channel}
use Rattle.ground_rules.specs.declared.State.{State}
use Rattle.ground_rules.specs.Buffers.{Buffers, within_limits}
use Rattle.turn_rules.specs.Step.{Step, refused_step, entry_number, step_of}
use Rattle.run_rules.specs.Run.{ran, steps_from, call_number}

-- a refused step ends the run
pub stops : (left : ℕ) (s : State) (m : Buffers) (lines done : ℕ) → 0 < left → ((step_of s m lines).number ≡ 0 → ⊥)
    → steps_from left s m lines done ≡ ran (step_of s m lines).number done (step_of s m lines).memory
unfolding steps_from
stops zero s m lines done h ne = absurd (not-suc-le-zero h)
stops (suc left) s m lines done h ne = rw (ne_eqb (step_of s m lines).number 0 ne)

-- what a step is not given ends it before the first
pub entry-stops : (left : ℕ) (s : State) (m : Buffers) (lines done : ℕ) → 0 < left → (entry_number s m lines ≡ 0 → ⊥) → steps_from left s m lines done ≡ ran (entry_number s m lines) done m
unfolding step_of
entry-stops left s m lines done h ne =
    let e : step_of s m lines ≡ refused_step (entry_number s m lines) s m = rw (ne_eqb (entry_number s m lines) 0 ne) in
    stops left s m lines done h (λ z. ne (sym (ap (λ (x : Step). x.number) e) ∙ z)) ∙ ap (λ (x : Step). ran x.number done x.memory) e

-- a done step leaves the rest of the run
pub goes : (left : ℕ) (s : State) (m : Buffers) (lines done : ℕ) → 0 < left → (step_of s m lines).number ≡ 0
    → steps_from left s m lines done ≡ steps_from (left - 1) (step_of s m lines).state (step_of s m lines).memory lines (done + 1)
unfolding steps_from
goes zero s m lines done h e = absurd (not-suc-le-zero h)
goes (suc left) s m lines done h e =
    rw (eq-eqb (step_of s m lines).number 0 e)
    (let e : left ≡ suc left - 1 = omega arith in ap (λ (n : ℕ). steps_from n (step_of s m lines).state (step_of s m lines).memory lines (done + 1)) e)

-- with no step left the run is at its limit
pub limits : (left : ℕ) (s : State) (m : Buffers) (lines done : ℕ) → left ≡ 0 → steps_from left s m lines done ≡ ran 0 done m
unfolding steps_from
limits left s m lines done e = ap (λ (n : ℕ). steps_from n s m lines done) e

-- a call that 12 does not refuse has a limit of sixteen bits
pub call-limit : (m : Buffers) (channel lines limit : ℕ) → call_number m channel lines limit ≡ 0 → limit < 65536
unfolding call_number first unless
call-limit m channel lines limit e = ltb-true limit 65536 (go (is_channel channel && ltb lines 16) (ltb limit 65536) e)
  where
    go : (x b : Bool) → first (unless (x && b) 12) (unless (within_limits m) 11) ≡ 0 → b ≡ true
    go true true e = refl
    go true false e = absurd (eqb-false 12 0 refl e)
    go false true e = refl
    go false false e = absurd (eqb-false 12 0 refl e)
