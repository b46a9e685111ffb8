-- `prom::records::sum_of` meets its contract.
-- Assumes nothing.
use lib.ListN.{length, length-append}
use mathlib.Core.Path.{sym, ap, ◌∙◌}
use native.Mathlib.Omega.{arith}
use Rattle.std.specs.Slice.Iter.{chunks_exact_rest}
use Rattle.prom.specs.Parts.{sum_in}
use Rattle.prom.proofs.LoopLaws.{sum-more, sum-none, sum-all}
use Rattle.prom.proofs.records.sum_of.Goals as goal

pub returns-in_err-sum : goal.returns-in_err-sum
returns-in_err-sum c = let l = c.loop-pair in
    let x = c.in-Some.pair.now in
    let s = c.in-Some.ensures.steps.1 in
    c.from_residual.ensures
    ∙ sym (sum-none x (chunks_exact_rest c.next.new.self) l.sum (s.1 ∙ l.invariant.size) (sym c.in_err-sum.ensures))
    ∙ ap (sum_in l.sum) (sym s.0) ∙ l.invariant.added

pub loop-pair-preserved : goal.loop-pair-preserved
loop-pair-preserved c = let l = c.loop-pair in
    let x = c.in-Some.pair.now in
    let s = c.in-Some.ensures.steps.1 in
    record {
      size = c.in-Some.ensures.steps.0 ∙ l.invariant.size;
      even = omega (arith, ap length s.0 ∙ length-append x (chunks_exact_rest c.next.new.self), s.1, l.invariant.size, l.invariant.even);
      added =
          sym (sum-more x (chunks_exact_rest c.next.new.self) l.sum c.in_ok-sum.field-0 (s.1 ∙ l.invariant.size) (sym c.in_ok-sum.ensures))
          ∙ ap (sum_in l.sum) (sym s.0) ∙ l.invariant.added;
    }

pub returns : goal.returns
returns c = let l = c.loop-pair in
    sym (sum-all (chunks_exact_rest l.pair-iterator) l.sum (omega (arith, c.in-None.ensures.steps.1.0, l.invariant.size)) l.invariant.even (omega (arith, l.auto.sum-fits)))
    ∙ l.invariant.added
