use mathlib.Core.Path.{◌≡◌}
use Prim.Native.Nat.{◌+◌}
use Rattle.ground_rules.specs.Places.{span}
use Rattle.touches.specs.Tales.{tale, lent_to, told_on, all_as}
use Rattle.touches.proofs.tell.Teller.span.Given as goal

-- the bytes passed are told behind what stood told
abbrev pub invariant-loop-i : goal.invariant-loop-i
invariant-loop-i l = record {
  same : l.self.places.ghost_name ≡ l.initial.self.places.ghost_name;
  lent : lent_to l.self ≡ lent_to l.initial.self;
  count : l.self.count ≡ l.initial.self.count + l.i;
  told : tale l.self ≡ told_on (lent_to l.initial.self) (all_as l.store (span l.p.tag l.p.address l.i)) (tale l.initial.self);
}
