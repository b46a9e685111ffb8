-- The answer of a row of the instruction summary: 3, 4 or the instruction.
use Rattle.std.specs.Prelude.{Bool, eqb, Ok, Err}
use Rattle.ground_rules.specs.Choice.{pick}
use Rattle.instruction_rules.specs.declared.Pair.{Pair}
use Rattle.instruction_rules.specs.declared.Shape.{Shape}
use Rattle.instruction_rules.specs.Decoded.{Decoded}
use Rattle.instruction_rules.specs.declared.Unread.TheVariants.{NoInstruction, ControlUsed}

-- RRR is CC
abbrev pub is_control : Pair → Bool
is_control p = eqb p.rrr 6

-- 3 where the columns are not met; then 4, where work other than MOV and MOVI uses CC; else the instruction (§6.4)
abbrev pub reading : Bool → Bool → Shape → Decoded
reading met control shape = pick met (pick control (Err ControlUsed) (Ok shape)) (Err NoInstruction)
