-- `touches::tell::Teller::span` meets its contract. The loop's invariant: the bytes passed are told behind what stood told.
-- Assumes nothing.
use native.Mathlib.Omega.{arith}
use mathlib.Core.Path.{◌≡◌, refl, ap, sym, ◌∙◌}
use Prim.Native.Nat.{◌+◌}
use Rattle.ground_rules.specs.Buffers.{Buffers, touchable_at}
use Rattle.ground_rules.specs.Places.{span}
use Rattle.ground_rules.specs.Values.{onward}
use Rattle.touch_rules.specs.Told.{Told}
use Rattle.touch_rules.specs.Touches.{pointed_place}
use Rattle.touches.specs.Tales.{Tale, tale, lent_to, plain_told, told_next, told_on, all_as}
use Rattle.touches.proofs.TaleLaws.{span_more, next-reduced}
use Rattle.touches.proofs.tell.Teller.span.Goals as goal

pub loop-i-init : goal.loop-i-init
unfolding told_on all_as span
loop-i-init c = record { same = refl; lent = refl; count = omega arith; told = refl }

pub one-requires : goal.one-requires
one-requires c = omega (arith, c.loop-i.invariant.count)

pub loop-i-preserved : goal.loop-i-preserved
unfolding told_next onward
loop-i-preserved c =
    let a = c.args in
    let l = c.loop-i in
    let m = lent_to a.self.now in
    let here : Told = plain_told a.store (record { tag = a.p.tag; address = a.p.address + l.i }) in
    let touched : c.touchable-ok.result ≡ touchable_at m c.onward-at.result.tag c.onward-at.result.address
    = c.touchable-ok.ensures ∙ ap (λ (n : Buffers). touchable_at n c.onward-at.result.tag c.onward-at.result.address) l.invariant.lent in
    let there : told_next c.touchable-ok.result (plain_told a.store (pointed_place c.onward-at.result)) (tale l.self)
    ≡ told_next (touchable_at m a.p.tag (a.p.address + l.i)) here (tale l.self)
    = rw (touched, c.onward-at.ensures) (next-reduced m a.store a.p.tag (a.p.address + l.i) (tale l.self)) in
    record {
      same = c.one.ensures.same ∙ l.invariant.same;
      lent = c.one.ensures.lent ∙ l.invariant.lent;
      count = ap (λ (x : Tale). x.count) c.one.ensures.told ∙ omega (arith, l.invariant.count);
      told = c.one.ensures.told ∙ there ∙ ap (told_next (touchable_at m a.p.tag (a.p.address + l.i)) here) l.invariant.told
          ∙ sym (span_more m a.store a.p.tag a.p.address l.i (tale a.self.now));
    }
