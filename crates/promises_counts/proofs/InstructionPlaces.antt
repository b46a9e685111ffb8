-- Which bytes an instruction touches, place by place.
-- Assumes nothing.
use Rattle.std.proofs.Common.{Ok}
use Prim.Native.Nat.{ℕ, ◌+◌, ◌-◌, ◌%◌}
use borrow.Author.Tests.{eq-eqb, ne_eqb}
use lib.Dec.{eqb}
use mathlib.Core.Bool.{Bool, true, false}
use mathlib.Core.List.{List, [], ◌∷◌, ◌++◌}
use mathlib.Core.Path.{◌≡◌, refl, ◌∙◌}
use Rattle.ground_rules.specs.Buffers.{Buffers}
use Rattle.ground_rules.specs.Choice.{pick}
use Rattle.ground_rules.specs.Places.{Place, span}
use Rattle.ground_rules.specs.Registers.{base_of}
use Rattle.ground_rules.specs.Stages.{stages_touched}
use Rattle.ground_rules.specs.Updates.{renewed}
use Rattle.ground_rules.specs.Values.{onward}
use Rattle.ground_rules.specs.declared.Channel.{Channel}
use Rattle.instruction_rules.specs.Changes.{places_of}
use Rattle.instruction_rules.specs.Execute.{decoded_at, performed, deed_of, deed_from, later_bytes, later_from, stages_from, instruction_stages, touched_by_instruction}
use Rattle.instruction_rules.specs.JumpForms.{tsl_deed}
use Rattle.instruction_rules.specs.Lengths.{length_of}
use Rattle.instruction_rules.specs.Marks.{past_instruction}
use Rattle.instruction_rules.specs.Operands.{byte_here, indexed, effective}
use Rattle.instruction_rules.specs.declared.Memory.{Memory}
use Rattle.instruction_rules.specs.declared.Shape.{Shape}
use Rattle.instruction_rules.specs.declared.Shape.TheVariants.{Tsl}
use Rattle.promises_counts.specs.InstructionPlaces.{own_places, pointer_place, InstructionPlaces}

module _ (c : Channel) (busy : ℕ) (m : Buffers) where
  -- what comes after an instruction's own bytes
  unfoldable after-own : Shape → List Place
  after-own s = let d = deed_of s m c busy in pick (eqb d.second 0) ((d.reads ++ places_of d.change) ++ []) []

  own_first : (s : Shape) → decoded_at m c.tp ≡ Ok s → touched_by_instruction m c busy ≡ own_places c.tp (length_of s - 2) ++ after-own s
  unfolding after-own touched_by_instruction instruction_stages stages_from stages_touched later_from later_bytes deed_from span onward
  own_first s d = rw d

  -- after TSL's own bytes its operand, once more where it is 0
  after-tsl : (o : Memory) (x : Bool) → eqb (byte_here m (effective m c o c.tp)) 0 ≡ x
      → after-own (Tsl o) ≡ pointer_place (effective m c o c.tp) ∷ pick x (pointer_place (effective m c o c.tp) ∷ []) []
  unfolding after-own deed_of performed tsl_deed places_of span effective indexed base_of past_instruction renewed
  after-tsl o true e = rw e
  after-tsl o false e = rw e

  pub instruction-places : InstructionPlaces c busy m
  instruction-places = record {
    rest = after-own;
    own = own_first;
    found = λ o d z. after-tsl o true (eq-eqb (byte_here m (effective m c o c.tp)) 0 z);
    taken = λ o d ne. after-tsl o false (ne_eqb (byte_here m (effective m c o c.tp)) 0 ne);
  }
