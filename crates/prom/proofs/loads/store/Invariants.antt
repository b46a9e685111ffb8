use Prim.Native.Nat.{◌<◌}
use mathlib.Core.List.{[]}
use mathlib.Core.Path.{◌≡◌}
use Rattle.ground_rules.specs.Buffers.{buffers}
use Rattle.prom_rules.specs.File.{file_of}
use Rattle.prom_rules.specs.Load.{store_all, text_file}
use Rattle.prom_rules.specs.Text.{hex_lines}
use Rattle.prom.proofs.loads.store.Given as goal

abbrev pub invariant-loop-frame : goal.invariant-loop-frame
invariant-loop-frame l =
    record {
      segment : l.segment < 65536;
      good : (file_of (hex_lines l.frame-iterator.rest.now) l.segment 0 0).number ≡ 0;
      stored : store_all (buffers l.sys []) (file_of (hex_lines l.frame-iterator.rest.now) l.segment 0 0).stores ≡ store_all (buffers l.initial.sys []) (text_file l.fn.text).stores;
    }
