-- `assembler_text::values::sum` and `assembler_text::values::term` meet their contracts. The loop's invariant: the rest behind
-- what is worth so much so far gives what the whole gives.
-- Assumes nothing.
use Prim.Native.Nat.{ℕ}
use native.Mathlib.Omega.{arith}
use Rattle.std.proofs.Common.{rules, tests, ◌≡◌, false}
use mathlib.Core.Path.{sym, ap, ◌∙◌}
use lib.ListN.{drop}
use Rattle.std.specs.declared.option.Option.TheVariants.{None, Some}
use Rattle.std.specs.declared.result.Result.TheVariants.{Err}
use Rattle.assembler_text.specs.declared.values.Unsummed.TheVariants.{NoSum}
use Rattle.assembly_rules.specs.declared.Worth.{Worth}
use Rattle.assembly_rules.specs.Text.{tokens_of}
use Rattle.assembly_rules.specs.Sums.{Read, combined_worth, and_then, close_at, term_of}
use Rattle.assembler_text.specs.declared.values.Sign.{Sign}
use Rattle.assembler_text.specs.Places.{token_at, mark_of, lead_at, labels_of}
use Rattle.assembler_text.specs.Reads.{read_as, closed_as, worth_before}
use Rattle.assembler_text.proofs.PlaceLaws.{run_lies}
use Rattle.assembler_text.proofs.ReadLaws.{goes_from, fails-then, begins_term, term-wrong, term-of-run, term-too-deep, term-inside, sum-fails, sum-starts, sum-stops, sum-breaks, sum_goes, sum_less}
use Rattle.assembler_text.proofs.values.+sum_term.Goals as goal

pub sum-returns-in_err-worth : goal.sum-returns-in_err-worth
unfolding read_as
sum-returns-in_err-worth t c =
    let a = c.args in
    let text = a.text.now in
    let labels = labels_of text a.labels.now in
    let e = ap (λ (g : Sign × ℕ). term_of a.depth labels (tokens_of (drop g.1 text))) (sym c.lead_at-sign.ensures) ∙ sym c.in_err-worth.ensures in
    let err : c.from_residual.result ≡ Err c.in_err-worth.field-0.0 = search (rules, tests) in
    ap (read_as text) err ∙ sym (sum-fails a.depth labels text a.at _ e)

pub sum-loop-sign-init : goal.sum-loop-sign-init
unfolding read_as
sum-loop-sign-init t c =
    let a = c.args in
    let text = a.text.now in
    let labels = labels_of text a.labels.now in
    let w = c.in_ok-worth.worth in
    let e = ap (λ (g : Sign × ℕ). term_of a.depth labels (tokens_of (drop g.1 text))) (sym c.lead_at-sign.ensures) ∙ sym c.in_ok-worth.ensures in
    let total = c.combined-total.ensures ∙ ap (λ (g : Sign × ℕ). combined_worth (mark_of g.0) c.known.result w) c.lead_at-sign.ensures ∙ ap (λ (z : Worth). combined_worth (mark_of (lead_at text a.at).0) z w) c.known.ensures in
    ap (λ (x : Worth). goes_from a.depth labels text x c.in_ok-worth.behind) total ∙ sum-starts a.depth labels text a.at w c.in_ok-worth.behind e

pub sum-returns-in_err-worth-2 : goal.sum-returns-in_err-worth-2
unfolding read_as
sum-returns-in_err-worth-2 t c =
    let a = c.args in
    let text = a.text.now in
    let labels = labels_of text a.labels.now in
    let l = c.loop-sign in
    let err : c.from_residual-in_err-worth-2.result ≡ Err c.in_err-worth-2.field-0.0 = search (rules, tests) in
    ap (read_as text) err ∙ sym (sum-breaks a.depth labels text l.total l.i _ _ (sym c.in-Some.ensures) _ (sym c.in_err-worth-2.ensures)) ∙ l.invariant

pub sum-loop-sign-smaller : goal.sum-loop-sign-smaller
unfolding read_as
sum-loop-sign-smaller t c =
    let a = c.args in
    let text = a.text.now in
    let labels = labels_of text a.labels.now in
    let l = c.loop-sign in
    sum_less a.depth labels text l.total l.i _ _ (sym c.in-Some.ensures) c.in_ok-worth-2.worth c.in_ok-worth-2.behind (sym c.in_ok-worth-2.ensures)

pub sum-loop-sign-preserved : goal.sum-loop-sign-preserved
unfolding read_as
sum-loop-sign-preserved t c =
    let a = c.args in
    let text = a.text.now in
    let labels = labels_of text a.labels.now in
    let l = c.loop-sign in
    ap (λ (x : Worth). goes_from a.depth labels text x c.in_ok-worth-2.behind) c.combined-total-in-Some.ensures ∙ sum_goes a.depth labels text l.total l.i _ _ (sym c.in-Some.ensures) c.in_ok-worth-2.worth c.in_ok-worth-2.behind (sym c.in_ok-worth-2.ensures) ∙ l.invariant

pub sum-returns : goal.sum-returns
unfolding read_as
sum-returns t c =
    let a = c.args in
    let text = a.text.now in
    let labels = labels_of text a.labels.now in
    let l = c.loop-sign in
    sym (sum-stops a.depth labels text l.total l.i (sym c.in_default.ensures)) ∙ l.invariant

pub term-slice_bounds-run_worth-count : goal.term-slice_bounds-run_worth-count
term-slice_bounds-run_worth-count t c = let l = run_lies c.args.text.now c.args.at _ _ (sym c.in-Some-Run.ensures ∙ ap Some c.in-Some-Run.field-0-is) in omega (arith, l.1)

pub term-slice_bounds-run_worth-start : goal.term-slice_bounds-run_worth-start
term-slice_bounds-run_worth-start t c = let l = run_lies c.args.text.now c.args.at _ _ (sym c.in-Some-Run.ensures ∙ ap Some c.in-Some-Run.field-0-is) in omega (arith, l.1)

pub term-slice_bounds-run_worth-end : goal.term-slice_bounds-run_worth-end
term-slice_bounds-run_worth-end t c = (run_lies c.args.text.now c.args.at _ _ (sym c.in-Some-Run.ensures ∙ ap Some c.in-Some-Run.field-0-is)).2

pub term-returns-in_err-worth-in-Some-Run : goal.term-returns-in_err-worth-in-Some-Run
unfolding read_as worth_before
term-returns-in_err-worth-in-Some-Run t c =
    let a = c.args in
    let text = a.text.now in
    let labels = labels_of text a.labels.now in
    let run = c.in-Some-Run in
    let none : c.run_worth.result ≡ None = search (rules, tests) in
    let err : c.from_residual.result ≡ Err NoSum = search (rules, tests) in
    let ts = tokens_of (drop run.to text) in
    ap (read_as text) err ∙ sym (ap (worth_before ts) none) ∙ term-of-run a.depth labels text a.at run.from run.to (sym run.ensures ∙ ap Some run.field-0-is) c.run_worth.result (c.run_worth.ensures ts)

pub term-returns-then-depth-eq0 : goal.term-returns-then-depth-eq0
unfolding read_as
term-returns-then-depth-eq0 t c =
    let a = c.args in
    let text = a.text.now in
    let mark = c.in-Some-Mark-eq40-default in
    sym (term-too-deep a.depth (labels_of text a.labels.now) text a.at _ _ (sym mark.ensures ∙ ap Some mark.field-0-is) mark.field-0-0-test c.if-depth-eq0.true)

pub term-returns-in_err-worth-in-Some-Mark-eq40-default : goal.term-returns-in_err-worth-in-Some-Mark-eq40-default
unfolding read_as
term-returns-in_err-worth-in-Some-Mark-eq40-default t c =
    let a = c.args in
    let text = a.text.now in
    let labels = labels_of text a.labels.now in
    let mark = c.in-Some-Mark-eq40-default in
    let inner = c.in_err-worth-in-Some-Mark-eq40-default.ensures in
    let err : c.from_residual-in_err-worth-in-Some-Mark-eq40-default.result ≡ Err c.in_err-worth-in-Some-Mark-eq40-default.field-0.0 = search (rules, tests) in
    ap (read_as text) err ∙ sym (fails-then _ close_at) ∙ ap (λ (x : Read). and_then x close_at) inner
    ∙ sym (term-inside a.depth labels text a.at _ _ (sym mark.ensures ∙ ap Some mark.field-0-is) mark.field-0-0-test c.if-depth-eq0.false)

pub term-returns-in_err-close-in-Some-Mark-eq40-default : goal.term-returns-in_err-close-in-Some-Mark-eq40-default
unfolding read_as closed_as
term-returns-in_err-close-in-Some-Mark-eq40-default t c =
    let a = c.args in
    let text = a.text.now in
    let labels = labels_of text a.labels.now in
    let mark = c.in-Some-Mark-eq40-default in
    let inner = c.in_ok-worth-in-Some-Mark-eq40-default in
    let err : c.from_residual-in_err-close-in-Some-Mark-eq40-default.result ≡ Err c.in_err-close-in-Some-Mark-eq40-default.field-0.0 = search (rules, tests) in
    ap (read_as text) err
    ∙ c.in_err-close-in-Some-Mark-eq40-default.ensures inner.worth
    ∙ ap (λ (x : Read). and_then x close_at) inner.ensures
    ∙ sym (term-inside a.depth labels text a.at _ _ (sym mark.ensures ∙ ap Some mark.field-0-is) mark.field-0-0-test c.if-depth-eq0.false)

pub term-returns-in_ok-worth-in-Some-Run : goal.term-returns-in_ok-worth-in-Some-Run
unfolding read_as worth_before
term-returns-in_ok-worth-in-Some-Run t c =
    let a = c.args in
    let text = a.text.now in
    let labels = labels_of text a.labels.now in
    let run = c.in-Some-Run in
    let some : c.run_worth.result ≡ Some c.in_ok-worth-in-Some-Run.worth = search (rules, tests) in
    let ts = tokens_of (drop run.to text) in
    sym (ap (worth_before ts) some) ∙ term-of-run a.depth labels text a.at run.from run.to (sym run.ensures ∙ ap Some run.field-0-is) c.run_worth.result (c.run_worth.ensures ts)

pub term-returns-in_ok-close-in-Some-Mark-eq40-default : goal.term-returns-in_ok-close-in-Some-Mark-eq40-default
unfolding read_as closed_as
term-returns-in_ok-close-in-Some-Mark-eq40-default t c =
    let a = c.args in
    let text = a.text.now in
    let labels = labels_of text a.labels.now in
    let mark = c.in-Some-Mark-eq40-default in
    let inner = c.in_ok-worth-in-Some-Mark-eq40-default in
    c.in_ok-close-in-Some-Mark-eq40-default.ensures inner.worth
    ∙ ap (λ (x : Read). and_then x close_at) inner.ensures
    ∙ sym (term-inside a.depth labels text a.at _ _ (sym mark.ensures ∙ ap Some mark.field-0-is) mark.field-0-0-test c.if-depth-eq0.false)

pub term-returns-in_default : goal.term-returns-in_default
unfolding read_as
term-returns-in_default t c =
    let a = c.args in
    let text = a.text.now in
    let none : begins_term (token_at text a.at) ≡ false = search (rules, tests) in
    sym (term-wrong a.depth (labels_of text a.labels.now) text a.at none)

pub term-returns-in_default-2 : goal.term-returns-in_default-2
unfolding read_as
term-returns-in_default-2 t c =
    let a = c.args in
    let text = a.text.now in
    let none : begins_term (token_at text a.at) ≡ false = search (rules, tests) in
    sym (term-wrong a.depth (labels_of text a.labels.now) text a.at none)
