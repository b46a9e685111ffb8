use Rattle.assembler_text.specs.Places.{labels_of}
use Rattle.assembler_forms.specs.Rows.{left_behind}
use Rattle.assembler_bytes.proofs.DataLaws.{LayingStands}
use Rattle.assembler_bytes.proofs.data.put.Given as goal

abbrev pub invariant-loop-item : goal.invariant-loop-item
invariant-loop-item l = LayingStands (labels_of l.text l.labels) l.text l.two l.place l.initial.code l.code l.next l.item

abbrev pub decreases-loop-item : goal.decreases-loop-item
decreases-loop-item l = left_behind l.text l.item
