use Rattle.notation.proofs.DataLaws.{Listing}
use Rattle.notation.proofs.lines.data_line.Given as goal

abbrev pub invariant-loop-b : goal.invariant-loop-b
invariant-loop-b l = Listing l.b-items l.line.chars l.line.len l.separator l.b-index
