use mathlib.Core.List.{[]}
use Prim.Native.Nat.{◌+◌}
use Rattle.assembler_forms.specs.Rows.{left_behind}
use Rattle.assembly_rules.proofs.PassLaws.{failed_from}
use Rattle.assembler_text.specs.Places.{labels_of}
use Rattle.assembler.specs.Passes.{said_from}
use Rattle.assembler.proofs.WalkLaws.{Goes}
use Rattle.assembler.proofs.passes.check.Given as goal

abbrev pub invariant-loop-place : goal.invariant-loop-place
invariant-loop-place l = Goes l.text l.labels.places.now l.labels.addresses.now l.first l.room (l.before + 1) l.count l.bytes l.place (failed_from (labels_of l.text l.labels) [] l.first l.room 1 0 (said_from l.text 0))

abbrev pub decreases-loop-place : goal.decreases-loop-place
decreases-loop-place l = left_behind l.text l.place
