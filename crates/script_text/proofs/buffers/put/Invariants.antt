-- The loop's invariant: writing the rest from here is writing all from the start.
use Prim.Native.Nat.{◌+◌, ◌*◌}
use lib.ListN.{drop}
use mathlib.Core.Path.{◌≡◌}
use Rattle.script_text.specs.Buffers.{bytes_written}
use Rattle.script_text.proofs.buffers.put.Given as goal

abbrev pub invariant-loop-i : goal.invariant-loop-i
invariant-loop-i l = bytes_written l.s (l.at + l.i) (drop (2 * l.i) l.digits) ≡ bytes_written l.initial.s l.at l.digits
