-- The loop's invariant: the digits that are left, put behind what stands, are all of them put behind what stood, in the same buffer.
use Prim.Native.Nat.{◌-◌}
use mathlib.Core.Path.{◌≡◌}
use Rattle.page.specs.Numbers.{hex}
use Rattle.page.specs.Pages.{sheet, written}
use Rattle.page.proofs.Page.append_hex.Given as goal

abbrev pub invariant-loop-i : goal.invariant-loop-i
invariant-loop-i l = record {
  put : written (sheet l.self) (hex l.small (l.shown - l.i) l.n) ≡ written (sheet l.initial.self) (hex l.small l.shown l.n);
  same : l.self.bytes.ghost_name ≡ l.initial.self.bytes.ghost_name;
}
