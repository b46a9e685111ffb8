-- The outcome of an instruction: it is unique, a refused one changes nothing, and a done one is what its deed says.
-- Assumes nothing.
use Rattle.std.proofs.Common.{Ok, Err}
use Prim.Native.Nat.{ℕ}
use borrow.Author.Tests.{eqb-false, eq-eqb, ne_eqb}
use mathlib.Core.Bool.{true}
use mathlib.Core.List.{◌++◌}
use mathlib.Core.Path.{◌≡◌, refl, sym, ap, ◌∙◌}
use native.Mathlib.Decide.{ℕ_discrete}
use Rattle.instruction_rules.specs.Decoded.{Decoded}
use Rattle.instruction_rules.specs.declared.Unread.TheVariants.{NoInstruction, ControlUsed}
use Rattle.instruction_rules.specs.declared.Shape.{Shape}
use Rattle.ground_rules.specs.Outcomes.{unless, first}
use Rattle.ground_rules.specs.Stages.{stages_number}
use Rattle.ground_rules.specs.declared.Channel.{Channel}
use Rattle.ground_rules.specs.Buffers.{Buffers, touchable_at}
use Rattle.ground_rules.specs.Places.{all_touchable}
use Rattle.ground_rules.proofs.SpanLaws.{all_append}
use Rattle.ground_rules.proofs.ChoiceLaws.{both_right}
use Rattle.instruction_rules.specs.Reading.{decoded_number}
use Rattle.instruction_rules.specs.Changes.{places_of, changed}
use Rattle.instruction_rules.specs.Operands.{bytes_at}
use Rattle.ground_rules.proofs.ConditionLaws.{first-none-left, first-none-right, unless-none}
use Rattle.instruction_rules.specs.Execute.{decoded_at, deed_of, deed_from, later_bytes, later_from, stages_from, instruction_stages, execute_number, Executed, executed, execute_of}
use Rattle.instruction_rules.specs.Kept.{deed_at}

-- no two outcomes meet the contract of `execute`
pub unique : (c : Channel) (busy : ℕ) (m : Buffers) (o o' : Executed) → o ≡ execute_of c busy m → o' ≡ execute_of c busy m → o ≡ o'
unique c busy m o o' e e' = e ∙ sym e'

module _ (c : Channel) (busy : ℕ) (m : Buffers) where
  -- what a check refuses has its number, and leaves channel and memory
  pub refused-by : (execute_number m c busy ≡ 0 → ⊥) → execute_of c busy m ≡ executed (execute_number m c busy) c m
  unfolding execute_of
  refused-by ne = rw (ne_eqb (execute_number m c busy) 0 ne)

  -- what none refuses is done
  pub done-by : execute_number m c busy ≡ 0 → execute_of c busy m ≡ executed 0 (deed_at m c busy).channel (changed m (deed_at m c busy).change)
  unfolding execute_of
  done-by e = rw (eq-eqb (execute_number m c busy) 0 e)

  -- the number handed back is the checks'
  pub number_is : (execute_of c busy m).number ≡ execute_number m c busy
  number_is = go (ℕ_discrete (execute_number m c busy) 0)
    where
      go : Dec (execute_number m c busy ≡ 0) → (execute_of c busy m).number ≡ execute_number m c busy
      go (yes e) = ap (λ (o : Executed). o.number) (done-by e) ∙ sym e
      go (no ne) = ap (λ (o : Executed). o.number) (refused-by ne)

  -- a refused instruction is the given channel and memory
  pub refused : ((execute_of c busy m).number ≡ 0 → ⊥) → execute_of c busy m ≡ executed (execute_of c busy m).number c m
  refused ne = refused-by (λ e. ne (number_is ∙ e)) ∙ ap (λ (n : ℕ). executed n c m) (sym number_is)

  -- what none refuses has passed the judgement of each stage, and the bytes that it reads and stores to may be touched
  pub pair-passed : execute_number m c busy ≡ 0 → decoded_number (decoded_at m c.tp) ≡ 0
  unfolding execute_number instruction_stages stages_from stages_number
  pair-passed z = first-none-left _ _ (first-none-right (unless (all_touchable m (bytes_at c.tp 2)) 2) _ z)

  after-later : execute_number m c busy ≡ 0 → first (deed_at m c busy).second (first (unless (all_touchable m ((deed_at m c busy).reads ++ places_of (deed_at m c busy).change)) 2) (first 0 0)) ≡ 0
  unfolding execute_number instruction_stages stages_from stages_number
  after-later z = first-none-right _ _ (first-none-right (decoded_number (decoded_at m c.tp)) _ (first-none-right (unless (all_touchable m (bytes_at c.tp 2)) 2) _ z))

  pub second-passed : execute_number m c busy ≡ 0 → (deed_at m c busy).second ≡ 0
  second-passed z = first-none-left _ _ (after-later z)

  pub stores-touchable : execute_number m c busy ≡ 0 → all_touchable m (places_of (deed_at m c busy).change) ≡ true
  stores-touchable z =
      let d = deed_at m c busy in
      let all : all_touchable m (d.reads ++ places_of d.change) ≡ true = unless-none 2 refl (first-none-left _ _ (first-none-right d.second _ (after-later z))) in
      both_right (all_touchable m d.reads) (all_touchable m (places_of d.change)) (sym (all_append (touchable_at m) d.reads (places_of d.change)) ∙ all)

  -- so what is done is an instruction of some shape
  pub by_number : (P : Executed → Type 0)
      → ((n : ℕ) → (n ≡ 0 → ⊥) → P (executed n c m))
      → ((s : Shape) → decoded_at m c.tp ≡ Ok s → execute_number m c busy ≡ 0 → P (executed 0 (deed_of s m c busy).channel (changed m (deed_of s m c busy).change)))
      → P (execute_of c busy m)
  unfolding deed_from
  by_number P not_done is-done = go (ℕ_discrete (execute_number m c busy) 0)
    where
      shape : (d : Decoded) → decoded_at m c.tp ≡ d → execute_number m c busy ≡ 0 → P (executed 0 (deed_from d m c busy).channel (changed m (deed_from d m c busy).change))
      shape (Ok s) e z = is-done s e z
      shape (Err NoInstruction) e z = absurd (eqb-false 3 0 refl (ap decoded_number (sym e) ∙ pair-passed z))
      shape (Err ControlUsed) e z = absurd (eqb-false 4 0 refl (ap decoded_number (sym e) ∙ pair-passed z))

      go : Dec (execute_number m c busy ≡ 0) → P (execute_of c busy m)
      go (yes e) = rw (done-by e) (shape (decoded_at m c.tp) refl e)
      go (no ne) = rw (refused-by ne) (not_done (execute_number m c busy) ne)

  -- a done instruction of some shape is what that shape does
  pub done : (s : Shape) → decoded_at m c.tp ≡ Ok s → (execute_of c busy m).number ≡ 0
      → execute_of c busy m ≡ executed 0 (deed_of s m c busy).channel (changed m (deed_of s m c busy).change)
  unfolding deed_from
  done s e z = done-by (sym number_is ∙ z) ∙ ap (λ (d : Decoded). executed 0 (deed_from d m c busy).channel (changed m (deed_from d m c busy).change)) e

  -- an instruction of some shape is done where its bytes may be touched and its second pair is not refused
  none-refuses : (s : Shape) → all_touchable m (bytes_at c.tp 2) ≡ true → all_touchable m (later_bytes s c) ≡ true → (deed_of s m c busy).second ≡ 0
      → all_touchable m (deed_of s m c busy).reads ≡ true → all_touchable m (places_of (deed_of s m c busy).change) ≡ true → stages_number m (stages_from (Ok s) m c busy) ≡ 0
  unfolding stages_number stages_from later_from deed_from first unless
  none-refuses s pair later second reads stores =
      rw (pair, later, second, all_append (touchable_at m) (deed_of s m c busy).reads (places_of (deed_of s m c busy).change), reads, stores)

  number_at : (d : Decoded) → decoded_at m c.tp ≡ d → execute_number m c busy ≡ stages_number m (stages_from d m c busy)
  unfolding execute_number instruction_stages
  number_at d e = ap (λ (x : Decoded). stages_number m (stages_from x m c busy)) e

  pub done-where : (s : Shape) → decoded_at m c.tp ≡ Ok s → all_touchable m (bytes_at c.tp 2) ≡ true → all_touchable m (later_bytes s c) ≡ true → (deed_of s m c busy).second ≡ 0
      → all_touchable m (deed_of s m c busy).reads ≡ true → all_touchable m (places_of (deed_of s m c busy).change) ≡ true
      → execute_of c busy m ≡ executed 0 (deed_of s m c busy).channel (changed m (deed_of s m c busy).change)
  done-where s e pair later second reads stores = done s e (number_is ∙ number_at (Ok s) e ∙ none-refuses s pair later second reads stores)
