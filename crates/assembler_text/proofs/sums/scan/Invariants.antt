use Prim.Native.Nat.{◌-◌, ◌≤◌}
use mathlib.Core.Path.{◌≡◌}
use lib.ListN.{length}
use Rattle.assembly_rules.specs.Sums.{scan_start}
use Rattle.assembler_text.proofs.PlaceLaws.{scan_at}
use Rattle.assembler_text.proofs.sums.scan.Given as goal

abbrev pub invariant-loop-role : goal.invariant-loop-role
invariant-loop-role l = (scan_at l.scan l.text l.i ≡ scan_at scan_start l.text l.at) × (l.scan.opened ≤ l.i)

abbrev pub decreases-loop-role : goal.decreases-loop-role
decreases-loop-role l = length l.text - l.i
