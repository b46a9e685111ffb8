use Rattle.assembler_text.specs.Places.{labels_of}
use Rattle.assembler_forms.specs.Rows.{left_behind}
use Rattle.assembler_bytes.proofs.DataLaws.{NumberStands}
use Rattle.assembler_bytes.proofs.data.check.Given as goal

abbrev pub invariant-loop-item : goal.invariant-loop-item
invariant-loop-item l = NumberStands (labels_of l.text l.labels) l.text l.two l.place l.stands l.item

abbrev pub decreases-loop-item : goal.decreases-loop-item
decreases-loop-item l = left_behind l.text l.item
