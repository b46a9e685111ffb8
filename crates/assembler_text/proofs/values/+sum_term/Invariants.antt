use Prim.Native.Nat.{◌+◌, ◌*◌}
use mathlib.Core.Path.{◌≡◌}
use lib.ListN.{length, drop}
use Rattle.assembly_rules.specs.Text.{tokens_of}
use Rattle.assembly_rules.specs.Sums.{sum_within}
use Rattle.assembler_text.specs.Places.{labels_of}
use Rattle.assembler_text.proofs.ReadLaws.{goes_from}
use Rattle.assembler_text.proofs.values.+sum_term.Given as goal

abbrev pub decreases-sum : goal.decreases-sum
decreases-sum l = l.depth * 2 + 1

abbrev pub decreases-term : goal.decreases-term
decreases-term l = l.depth * 2

abbrev pub invariant-sum-loop-sign : goal.invariant-sum-loop-sign
invariant-sum-loop-sign l = goes_from l.depth (labels_of l.text l.labels) l.text l.total l.i ≡ sum_within l.depth (labels_of l.text l.labels) (tokens_of (drop l.at l.text))

abbrev pub decreases-sum-loop-sign : goal.decreases-sum-loop-sign
decreases-sum-loop-sign l = length (tokens_of (drop l.i l.text))
