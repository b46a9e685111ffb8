-- The loop's invariant: the rest of the text, put from here on, is all of it put behind what stood, in the same buffer.
use lib.ListN.{drop}
use mathlib.Core.Path.{◌≡◌}
use Rattle.page.specs.Pages.{page, sheet, written}
use Rattle.page.proofs.Page.append.Given as goal

abbrev pub invariant-loop-byte : goal.invariant-loop-byte
invariant-loop-byte l = record {
  put : written (page l.self.bytes.now l.count) (drop l.byte-index l.text) ≡ written (sheet l.initial.self) l.text;
  same : l.self.bytes.ghost_name ≡ l.initial.self.bytes.ghost_name;
}
