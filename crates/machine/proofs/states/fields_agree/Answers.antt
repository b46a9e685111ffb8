-- `machine::states::fields_agree` meets its contract: equality tests the fields one by one, as the definition does.
-- Assumes nothing.
use lib.Dec.{eqb}
use mathlib.Core.Bool.{Bool, true, false, ◌&&◌, beq}
use mathlib.Core.Path.{◌≡◌, refl}
use Rattle.ground_rules.specs.Cc.{same_flag, same_fields}
use Rattle.ground_rules.specs.States.{fields_agree}
use Rattle.ground_rules.specs.declared.Fields.{Fields}
use Rattle.machine.proofs.states.fields_agree.Goals as goal

-- two flags
flag : (a b : Bool) → beq a b ≡ same_flag a b
unfolding same_flag
flag true true = refl
flag true false = refl
flag false true = refl
flag false false = refl

-- ten tests, from the right and from the left
ten : (a b c d e f g h i j : Bool) → a && (b && (c && (d && (e && (f && (g && (h && (i && j)))))))) ≡ a && b && c && d && e && f && g && h && i && j
ten false b c d e f g h i j = refl
ten true false c d e f g h i j = refl
ten true true false d e f g h i j = refl
ten true true true false e f g h i j = refl
ten true true true true false f g h i j = refl
ten true true true true true false g h i j = refl
ten true true true true true true false h i j = refl
ten true true true true true true true false i j = refl
ten true true true true true true true true false j = refl
ten true true true true true true true true true j = refl

tests : (f g : Fields) → beq f.destinationMoves g.destinationMoves && (beq f.sourceMoves g.sourceMoves && (beq f.translates g.translates && (eqb f.synchronised g.synchronised && (beq f.sourceIsGB g.sourceIsGB && (beq f.chained g.chained && (beq f.singleTransfer g.singleTransfer && (eqb f.externalEnd g.externalEnd && (eqb f.countEnd g.countEnd && eqb f.matchEnd g.matchEnd)))))))) ≡ same_fields f g
unfolding same_fields
tests f g = simp flag (ten (same_flag f.destinationMoves g.destinationMoves) (same_flag f.sourceMoves g.sourceMoves) (same_flag f.translates g.translates) (eqb f.synchronised g.synchronised) (same_flag f.sourceIsGB g.sourceIsGB) (same_flag f.chained g.chained) (same_flag f.singleTransfer g.singleTransfer) (eqb f.externalEnd g.externalEnd) (eqb f.countEnd g.countEnd) (eqb f.matchEnd g.matchEnd))

pub returns : goal.returns
unfolding fields_agree
returns c = rw (c.eq.ensures, c.split.ensures) (tests _ _)
