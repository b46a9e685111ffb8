use Prim.Native.Nat.{◌%◌}
use lib.ListN.{length}
use mathlib.Core.Path.{◌≡◌}
use Rattle.std.specs.Slice.Iter.{chunks_exact_rest, chunks_exact_size}
use Rattle.prom.specs.Parts.{sum_in}
use Rattle.prom.proofs.records.sum_of.Given as goal

abbrev pub invariant-loop-pair : goal.invariant-loop-pair
invariant-loop-pair l =
    record {
      size : chunks_exact_size l.pair-iterator ≡ 2;
      even : length (chunks_exact_rest l.pair-iterator) % 2 ≡ 0;
      added : sum_in l.sum (chunks_exact_rest l.pair-iterator) ≡ sum_in 0 l.digits;
    }
