use Prim.Native.Nat.{◌≤◌, ◌<◌}
use mathlib.Core.Path.{◌≡◌}
use mathlib.Core.List.{[]}
use lib.ListN.{length}
use Rattle.assembler_forms.specs.Rows.{left_behind}
use Rattle.assembly_rules.specs.Assembly.{labels_from}
use Rattle.assembler.specs.Passes.{said_from, said_to, labels_in}
use Rattle.assembler.proofs.passes.labels.Given as goal

abbrev pub invariant-loop-place : goal.invariant-loop-place
invariant-loop-place l =
    (l.address < 65536) × ((l.count ≤ 64) × ((length l.places ≡ 64) × ((length l.addresses ≡ 64) × (labels_from (labels_in l.text l.places l.addresses l.count) l.address (said_to l.text l.place) ≡ labels_from [] l.first (said_from l.text 0)))))

abbrev pub decreases-loop-place : goal.decreases-loop-place
decreases-loop-place l = left_behind l.text l.place
