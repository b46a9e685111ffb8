-- The loop's invariant: the file that goes on from here ends where the whole one does.
use lib.ListN.{drop}
use mathlib.Core.Bool.{true}
use mathlib.Core.Path.{◌≡◌}
use Rattle.script.specs.Lines.{file_from}
use Rattle.script.proofs.file_end.Given as goal

abbrev pub invariant-loop-i : goal.invariant-loop-i
invariant-loop-i l = file_from l.text l.i l.start (drop l.i l.text) ≡ file_from l.text l.at true (drop l.at l.text)
