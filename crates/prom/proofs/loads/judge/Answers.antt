-- `prom::loads::judge` meets its contract.
-- Assumes nothing.
use denote.Enum.Bare.{same_true, same_false}
use lib.Dec.{lit<}
use mathlib.Core.List.{[]}
use mathlib.Core.Path.{◌≡◌, refl, sym, ap, ◌∙◌}
use native.Mathlib.Omega.{arith}
use Rattle.std.proofs.Common.{rules}
use Rattle.std.specs.Prelude.{Some, None}
use Rattle.ground_rules.specs.Buffers.{buffers}
use Rattle.prom_rules.specs.File.{next_line}
use Rattle.prom_rules.specs.Load.{text_file}
use Rattle.prom.specs.Refusals.{judged_of}
use Rattle.prom.specs.contracts.records.RecordKind.{the_type}
use Rattle.prom.specs.declared.records.RecordKind.TheVariants.{End}
use Rattle.prom.proofs.KindLaws.{kind-of, not-kind}
use Rattle.prom.proofs.LoopLaws.{text-end, frame-end, frame-judged, judged-refused}
use Rattle.prom.proofs.PlaceLaws.{judged-bad, judged-end, judged-beyond}
use Rattle.prom.proofs.CheckLaws.{handed-loaded}
use Rattle.prom.proofs.loads.judge.Goals as goal

pub loop-frame-init : goal.loop-frame-init
unfolding text_file
loop-frame-init c = rw c.into_iter-frame-iterator.ensures.into_iter_gives (record { segment = lit< tt; line = refl; judged = refl })

pub returns-in_err-frame : goal.returns-in_err-frame
returns-in_err-frame c = let l = c.loop-frame in
    let m = buffers c.args.sys.now [] in
    let w = c.in_err-frame.field-0.0 in
    let s = c.in-Some.ensures.steps in
    let g = rw c.in_err-frame.was at s.1 in
    handed-loaded c.from_residual.result w m c.from_residual.ensures.1
    ∙ judged-refused m l.beyond l.frame-iterator.rest.now l.segment l.start l.line w g.1 g.2 (g.0 ∙ s.0 ∙ ap next_line (sym l.invariant.line))
    ∙ l.invariant.judged

pub returns-in_err-record : goal.returns-in_err-record
returns-in_err-record c = let l = c.loop-frame in
    let m = buffers c.args.sys.now [] in
    let w = c.in_err-record.field-0.0 in
    let s = c.in-Some.ensures.steps in
    let g = rw c.in_ok-frame.was at s.1 in
    let h = c.in_err-record.ensures in
    handed-loaded c.from_residual-in_err-record.result w m c.from_residual-in_err-record.ensures.1
    ∙ judged-refused m l.beyond l.frame-iterator.rest.now l.segment l.start l.line w (omega (arith, g.1.shorter)) (h.0 ∙ sym g.1.same)
    (h.1 ∙ g.0 ∙ s.0 ∙ ap next_line (sym l.invariant.line))
    ∙ l.invariant.judged

pub returns-in-None-beyond : goal.returns-in-None-beyond
returns-in-None-beyond c = let l = c.loop-frame in
    let m = buffers c.args.sys.now [] in
    let g = (rw c.in_ok-frame.was at c.in-Some.ensures.steps.1).1 in
    let same = c.in_ok-record.ensures.0 in
    let e = rw same at c.in_ok-record.record.good in
    let k = rw same at (kind-of c.in_ok-record.record End (same_true the_type (search rules) _ _ (sym c.if-eq.ensures))) in
    sym (judged-end m l.start)
    ∙ sym (ap (judged_of m None) (frame-end l.frame-iterator.rest.now c.in_ok-frame.field-0 c.next.new.self.rest.now g e l.segment l.start l.line k))
    ∙ (rw c.in-None-beyond.is at l.invariant.judged)

pub returns-in-Some-beyond : goal.returns-in-Some-beyond
returns-in-Some-beyond c = let l = c.loop-frame in
    let m = buffers c.args.sys.now [] in
    let g = (rw c.in_ok-frame.was at c.in-Some.ensures.steps.1).1 in
    let same = c.in_ok-record.ensures.0 in
    let e = rw same at c.in_ok-record.record.good in
    let k = rw same at (kind-of c.in_ok-record.record End (same_true the_type (search rules) _ _ (sym c.if-eq.ensures))) in
    sym (judged-beyond m l.start c.in-Some-beyond.line)
    ∙ sym (ap (judged_of m (Some c.in-Some-beyond.line)) (frame-end l.frame-iterator.rest.now c.in_ok-frame.field-0 c.next.new.self.rest.now g e l.segment l.start l.line k))
    ∙ (rw c.in-Some-beyond.is at l.invariant.judged)

pub loop-frame-preserved : goal.loop-frame-preserved
loop-frame-preserved c = let l = c.loop-frame in
    let m = buffers c.args.sys.now [] in
    let s = c.in-Some.ensures.steps in
    let read = rw c.in_ok-frame.was at s.1 in
    let f = c.in_ok-frame.field-0 in
    let same = c.in_ok-record.ensures.0 in
    let line : c.in_ok-record.record.line ≡ next_line l.line = c.in_ok-record.ensures.1 ∙ read.0 ∙ s.0 ∙ ap next_line (sym l.invariant.line) in
    let e = rw same at c.in_ok-record.record.good in
    let ne = rw same at (not-kind c.in_ok-record.record End (same_false the_type _ _ (sym c.if-eq.ensures))) in
    record {
      segment = c.segment_after-segment.ensures.bound l.invariant.segment;
      line = c.in_ok-record.ensures.1 ∙ read.0;
      judged =
          rw (c.first_beyond-beyond.ensures, c.segment_after-segment.ensures.value, c.start_after-start.ensures, same, line)
          (sym (frame-judged l.frame-iterator.rest.now f c.next.new.self.rest.now read.1 e ne m l.beyond l.segment l.start l.line) ∙ l.invariant.judged);
    }

pub returns : goal.returns
returns c = let l = c.loop-frame in
    let m = buffers c.args.sys.now [] in
    sym (judged-bad m l.beyond 23 l.line (λ e. omega (arith, e)))
    ∙ sym (ap (judged_of m l.beyond) (text-end l.frame-iterator.rest.now l.segment l.start l.line c.in-None.ensures.steps))
    ∙ l.invariant.judged
