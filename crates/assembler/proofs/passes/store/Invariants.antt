use Rattle.assembler_forms.specs.Rows.{left_behind}
use Rattle.assembly_rules.proofs.PassLaws.{bytes_from}
use Rattle.assembler_text.specs.Places.{labels_of}
use Rattle.assembler.specs.Passes.{said_from, said_to}
use Rattle.assembler.proofs.WalkLaws.{LaidOn}
use Rattle.assembler.proofs.passes.store.Given as goal

abbrev pub invariant-loop-place : goal.invariant-loop-place
invariant-loop-place l = LaidOn (bytes_from (labels_of l.text l.labels) l.first 0 (said_from l.text 0)) l.initial.code l.code (bytes_from (labels_of l.text l.labels) l.first l.bytes (said_to l.text l.place)) l.bytes

abbrev pub decreases-loop-place : goal.decreases-loop-place
decreases-loop-place l = left_behind l.text l.place
