use Rattle.assembler_forms.specs.Rows.{left_behind}
use Rattle.assembler_lines.proofs.ItemLaws.{PassedTo}
use Rattle.assembler_lines.proofs.lines.items.Given as goal

abbrev pub invariant-loop-part : goal.invariant-loop-part
invariant-loop-part l = PassedTo l.text l.at l.low l.count l.part

abbrev pub decreases-loop-part : goal.decreases-loop-part
decreases-loop-part l = left_behind l.text l.part
