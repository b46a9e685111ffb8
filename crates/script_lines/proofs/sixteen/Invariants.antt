-- The loop's invariant: the bytes from here, put behind what stands, are all of them put behind what stood, in the same buffer.
use Prim.Native.Nat.{◌+◌, ◌-◌}
use mathlib.Core.Path.{◌≡◌}
use Rattle.page.specs.Pages.{sheet, written}
use Rattle.script_lines.specs.Lines.{bytes_text}
use Rattle.script_lines.proofs.sixteen.Given as goal

abbrev pub invariant-loop-offset : goal.invariant-loop-offset
invariant-loop-offset l = record {
  put : written (sheet l.page) (bytes_text (16 - l.offset) l.bytes (l.from + l.offset)) ≡ written (sheet l.initial.page) (bytes_text 16 l.bytes l.from);
  same : l.page.bytes.ghost_name ≡ l.initial.page.bytes.ghost_name;
}
