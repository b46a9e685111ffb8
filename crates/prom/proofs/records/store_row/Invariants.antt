use Prim.Native.Nat.{◌<◌}
use mathlib.Core.Bool.{true}
use mathlib.Core.List.{[]}
use mathlib.Core.Path.{◌≡◌}
use Rattle.std.specs.Slice.Iter.{chunks_exact_rest, chunks_exact_size}
use Rattle.ground_rules.specs.Buffers.{buffers}
use Rattle.prom_rules.specs.File.{stores_from}
use Rattle.prom_rules.specs.Load.{store_all}
use Rattle.prom_rules.specs.Records.{all_hex, hex_bytes}
use Rattle.prom.proofs.records.store_row.Given as goal

abbrev pub invariant-loop-pair : goal.invariant-loop-pair
invariant-loop-pair l =
    record {
      size : chunks_exact_size l.pair-iterator ≡ 2;
      digits : all_hex (chunks_exact_rest l.pair-iterator) ≡ true;
      place : l.to < 65536;
      stored : store_all (buffers l.sys []) (stores_from 0 l.segment l.to (hex_bytes (chunks_exact_rest l.pair-iterator)))
          ≡ store_all (buffers l.initial.sys []) (stores_from 0 l.segment l.offset (hex_bytes l.digits));
    }
