use Prim.Native.Nat.{◌<◌}
use mathlib.Core.List.{[]}
use mathlib.Core.Path.{◌≡◌}
use Rattle.std.specs.Prelude.{None}
use Rattle.ground_rules.specs.Buffers.{buffers}
use Rattle.prom_rules.specs.File.{file_of}
use Rattle.prom_rules.specs.Load.{text_file}
use Rattle.prom_rules.specs.Text.{hex_lines}
use Rattle.prom.specs.Refusals.{judged_of}
use Rattle.prom.proofs.loads.judge.Given as goal

abbrev pub invariant-loop-frame : goal.invariant-loop-frame
invariant-loop-frame l =
    record {
      segment : l.segment < 65536;
      line : l.line ≡ l.frame-iterator.line;
      judged : judged_of (buffers l.sys []) l.beyond (file_of (hex_lines l.frame-iterator.rest.now) l.segment l.start l.line) ≡ judged_of (buffers l.sys []) None (text_file l.fn.text);
    }
