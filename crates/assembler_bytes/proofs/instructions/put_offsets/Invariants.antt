use mathlib.Core.List.{List, ◌++◌}
use mathlib.Core.Path.{◌≡◌}
use Prim.Native.Nat.{ℕ}
use lib.ListN.{drop}
use Rattle.assembler_bytes.specs.Laid.{laid_at}
use Rattle.assembler_bytes.specs.Placed.{offsets_laid}
use Rattle.assembler_bytes.proofs.instructions.put_offsets.Given as goal

abbrev pub invariant-loop-place : goal.invariant-loop-place
invariant-loop-place l = (bs : List ℕ) → laid_at l.room l.next (offsets_laid (drop l.place-index l.places) ++ bs) ≡ laid_at l.initial.room l.at (offsets_laid l.places ++ bs)
