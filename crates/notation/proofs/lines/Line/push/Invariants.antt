use mathlib.Core.List.{◌++◌}
use Prim.Native.Nat.{◌+◌}
use lib.ListN.{length, take}
use Rattle.notation.specs.Writing.{held_in}
use Rattle.notation.proofs.PieceLaws.{Left}
use Rattle.notation.proofs.lines.Line.push.Given as goal

abbrev pub invariant-loop-rest : goal.invariant-loop-rest
invariant-loop-rest l = Left l.self.chars l.rest l.len (l.initial.self.len + length (held_in l.piece)) (take l.initial.self.len l.initial.self.chars ++ held_in l.piece)

abbrev pub decreases-loop-rest : goal.decreases-loop-rest
decreases-loop-rest l = l.rest
