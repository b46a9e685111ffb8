-- Each number of a power-up is given exactly under its own condition and no earlier one, whatever the given state is.
-- Assumes nothing.
use Prim.Native.Nat.{ℕ, ◌≤◌}
use mathlib.Core.Bool.{Bool, true, false, ◌&&◌}
use mathlib.Core.List.{List, [], ◌∷◌, ◌++◌}
use mathlib.Core.Logic.{◌↔◌}
use mathlib.Core.Path.{◌≡◌, refl, sym, ap, ◌∙◌}
use Rattle.ground_rules.proofs.ConditionLaws.{step, last, rewritten, worded, given-most, told-limits, told-touchable}
use Rattle.ground_rules.proofs.OutcomeLaws.{settled-number, first-zero, first-right}
use Rattle.ground_rules.specs.Conditions.{Given, Exactly}
use Rattle.ground_rules.specs.Outcomes.{unless, first}
use Rattle.ground_rules.specs.Stages.{stage, stages_number}
use Rattle.ground_rules.specs.States.{busy_in}
use Rattle.ground_rules.specs.declared.State.{State}
use Rattle.ground_rules.proofs.SpanLaws.{all_append}
use Rattle.ground_rules.specs.Buffers.{Buffers, touchable_at, within_limits}
use Rattle.ground_rules.specs.Places.{Place, span, all_touchable}
use Rattle.attention_rules.specs.PowerConditions.{power_checks}
use Rattle.attention_rules.specs.Power.{sysbus_place, configuration_place, configuration_of, control_place, control_of, power_places, power_stages, power_number, found_state, found_memory, power_up_of}

-- whether the eleven bytes are lent, part by part
pub places-lent : (m : Buffers) → all_touchable m (power_places m)
    ≡ all_touchable m (span false sysbus_place 1)
    && (all_touchable m (span false configuration_place 4)
    && (all_touchable m (span false (configuration_of m) 1) && (all_touchable m (span false (control_place m) 4) && all_touchable m (span false (busy_in (control_of m)) 1))))
unfolding power_places
places-lent m =
    before (span false sysbus_place 1) _
    (before (span false configuration_place 4) _
    (before (span false (configuration_of m) 1) _ (all_append (touchable_at m) (span false (control_place m) 4) (span false (busy_in (control_of m)) 1))))
  where
    before : (ps qs : List Place) {b : Bool} → all_touchable m qs ≡ b → all_touchable m (ps ++ qs) ≡ all_touchable m ps && b
    before ps qs e = all_append (touchable_at m) ps qs ∙ ap (λ (x : Bool). all_touchable m ps && x) e

-- tests in a row, however they are grouped
grouped : (a b c d e : Bool) → a && b && c && d && e ≡ a && (b && (c && (d && e)))
grouped false b c d e = refl
grouped true false c d e = refl
grouped true true false d e = refl
grouped true true true d e = refl

-- the same as the code asks it
pub places_row : (m : Buffers)
    → all_touchable m (span false sysbus_place 1)
    && all_touchable m (span false configuration_place 4)
    && all_touchable m (span false (configuration_of m) 1)
    && all_touchable m (span false (control_place m) 4)
    && all_touchable m (span false (busy_in (control_of m)) 1)
    ≡ all_touchable m (power_places m)
places_row m =
    grouped (all_touchable m (span false sysbus_place 1)) (all_touchable m (span false configuration_place 4)) (all_touchable m (span false (configuration_of m) 1)) (all_touchable m (span false (control_place m) 4)) (all_touchable m (span false (busy_in (control_of m)) 1))
    ∙ sym (places-lent m)

-- one stage that judges nothing
one-stage : (m : Buffers) (ps : List Place) → stages_number m (stage ps 0 ∷ []) ≡ unless (all_touchable m ps) 2
unfolding stages_number
one-stage m ps = ap (first (unless (all_touchable m ps) 2)) (first-zero 0) ∙ first-right (unless (all_touchable m ps) 2)

-- 11, then 2
pub power-chain : (m : Buffers) → power_number m ≡ first (unless (within_limits m) 11) (unless (all_touchable m (power_places m)) 2)
unfolding power_number power_stages
power-chain m = ap (first (unless (within_limits m) 11)) (one-stage m (power_places m))

module _ (s : State) (m : Buffers) where
  pub power-number : (power_up_of s m).number ≡ power_number m
  unfolding power_up_of
  power-number = settled-number (power_number m) s m (found_state m) (found_memory m)

  -- the table, whole
  pub power-given : (n : ℕ) → ((power_up_of s m).number ≡ n) ↔ Given (power_checks m) n
  power-given n = rewritten (power-number ∙ power-chain m) (step 11 refl (told-limits m) (last n 2 refl (told-touchable m (power_places m))))

  -- the number is at most 11
  pub power-most : (power_up_of s m).number ≤ 11
  power-most = given-most 11 (power_checks m) refl ((power-given (power_up_of s m).number).0 refl)

  -- in words: 11 of a buffer that is too long, 2 of one of the eleven bytes beyond lent memory, 0 of neither
  pub power-exactly : (n : ℕ) → ((power_up_of s m).number ≡ n) ↔ Exactly (power_checks m) n
  power-exactly n = worded (power_checks m) n (power-given n)
