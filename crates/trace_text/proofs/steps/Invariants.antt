-- The loop's invariant: what is written, followed by the text of the rest, is the whole text, and the rest of the run is the whole run.
use Prim.Native.Nat.{◌-◌}
use mathlib.Core.Path.{◌≡◌}
use Rattle.ground_rules.specs.Buffers.{buffers}
use Rattle.page.specs.Pages.{sheet, written}
use Rattle.run_rules.specs.Run.{steps_from}
use Rattle.trace_text.specs.Trace.{steps_text}
use Rattle.trace_text.proofs.steps.Given as goal

abbrev pub invariant-loop-done : goal.invariant-loop-done
invariant-loop-done l = record {
  text : written (sheet l.page) (steps_text (1000 - l.done) l.state (buffers l.sys l.io) l.done) ≡ written (sheet l.initial.page) (steps_text 1000 l.initial.state (buffers l.initial.sys l.initial.io) 0);
  same : l.page.bytes.ghost_name ≡ l.initial.page.bytes.ghost_name;
  run : steps_from (1000 - l.done) l.state (buffers l.sys l.io) 0 l.done ≡ steps_from 1000 l.initial.state (buffers l.initial.sys l.initial.io) 0 0;
}
