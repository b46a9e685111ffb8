-- `prom::loads::store` meets its contract.
-- Assumes nothing.
use denote.Enum.Bare.{same_true, same_false}
use lib.Dec.{lit<}
use mathlib.Core.List.{[]}
use mathlib.Core.Path.{refl, sym, ap, ◌∙◌}
use native.Mathlib.Omega.{arith}
use Rattle.std.proofs.Common.{rules}
use Rattle.ground_rules.specs.Buffers.{buffers}
use Rattle.prom_rules.specs.File.{File}
use Rattle.prom_rules.specs.Load.{store_all, text_file}
use Rattle.prom.specs.contracts.records.RecordKind.{the_type}
use Rattle.prom.specs.declared.records.RecordKind.TheVariants.{End}
use Rattle.prom.proofs.KindLaws.{kind-of, not-kind}
use Rattle.prom.proofs.LoopLaws.{text-end, frame-end, frame-stored, frame-number, framed-good, framed-some}
use Rattle.prom.proofs.loads.store.Goals as goal

pub loop-frame-init : goal.loop-frame-init
unfolding text_file
loop-frame-init c = rw c.into_iter-frame-iterator.ensures.into_iter_gives (record { segment = lit< tt; good = c.requires; stored = refl })

pub returns-in_default : goal.returns-in_default
returns-in_default c = let l = c.loop-frame in
    absurd (framed-some l.frame-iterator.rest.now c.in-Some.frame c.next.new.self.rest.now c.next.new.self.line l.segment c.in-Some.ensures.steps.1 l.invariant.good c.in_default.not-Ok)

pub known-record-requires : goal.known-record-requires
known-record-requires c = let l = c.loop-frame in
    framed-good l.frame-iterator.rest.now c.in-Ok.frame c.next.new.self.rest.now (rw c.in-Ok.is at c.in-Some.ensures.steps.1).1 l.segment 0 0 l.invariant.good

pub returns-then-eq : goal.returns-then-eq
unfolding store_all
returns-then-eq c = let l = c.loop-frame in
    let t = l.frame-iterator.rest.now in
    let f = c.in-Ok.frame in
    let g = (rw c.in-Ok.is at c.in-Some.ensures.steps.1).1 in
    let e = framed-good t f c.next.new.self.rest.now g l.segment 0 0 l.invariant.good in
    let k = kind-of c.known-record.result End (same_true the_type (search rules) _ _ (sym c.if-eq.ensures)) in
    sym (ap (λ (d : File). store_all (buffers l.sys []) d.stores) (frame-end t f c.next.new.self.rest.now g e l.segment 0 0 (rw c.known-record.ensures at k)))
    ∙ l.invariant.stored

pub loop-frame-preserved : goal.loop-frame-preserved
loop-frame-preserved c = let l = c.loop-frame in
    let t = l.frame-iterator.rest.now in
    let f = c.in-Ok.frame in
    let rest = c.next.new.self.rest.now in
    let g = (rw c.in-Ok.is at c.in-Some.ensures.steps.1).1 in
    let e = framed-good t f rest g l.segment 0 0 l.invariant.good in
    let k = not-kind c.known-record.result End (same_false the_type _ _ (sym c.if-eq.ensures)) in
    let ne = rw c.known-record.ensures at k in
    let after = rw c.known-record.ensures at c.segment_after-segment.ensures.value in
    let stored = rw c.known-record.ensures at c.store.ensures in
    record {
      segment = c.segment_after-segment.ensures.bound l.invariant.segment;
      good = rw after (sym (frame-number t f rest g e ne l.segment) ∙ l.invariant.good);
      stored = rw (after, stored) (sym (frame-stored t f rest g e ne (buffers l.sys []) l.segment) ∙ l.invariant.stored);
    }

pub returns : goal.returns
returns c = let l = c.loop-frame in
    absurd (omega (arith, sym (ap (λ (d : File). d.number) (text-end l.frame-iterator.rest.now l.segment 0 0 c.in-None.ensures.steps)) ∙ l.invariant.good))
