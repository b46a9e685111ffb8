-- `execute::shaped` meets its contract.
-- Assumes nothing.
use Rattle.std.proofs.Common.{Bool, sym, ap, ◌∙◌, ◌+◌, ◌%◌, ℕ}
use Rattle.std.proofs.lemmas.Result.{err_from_is_err_and}
use borrow.Author.Tests.{not-true, not-false}
use Rattle.ground_rules.specs.Buffers.{buffers}
use Rattle.ground_rules.specs.Places.{span, all_touchable}
use Rattle.instruction_rules.proofs.CountLaws.{reads-most}
use Rattle.execute.specs.Findings.{finding_of}
use Rattle.execute.proofs.CodeLaws.{does-planned, does-beyond, own-beyond, own-touched}
use Rattle.execute.proofs.shaped.Goals as goal

pub returns-then-not-own_touchable : goal.returns-then-not-own_touchable
returns-then-not-own_touchable c =
    let a = c.args in
    let m = buffers a.sys.now a.io.now in
    let beyond = ap (λ (n : ℕ). all_touchable m (span a.c.tp.tag a.c.tp.address n)) (sym c.requires.count_value) ∙ sym c.own_touchable.ensures ∙ not-true _ c.if-not-own_touchable.true-raw in
    own-beyond m a.c a.busy a.shape beyond

pub returns-in_err-e : goal.returns-in_err-e
returns-in_err-e c =
    let a = c.args in
    let m = buffers a.sys.now a.io.now in
    let long = c.requires.count_value in
    let found = c.found-f.ensures ∙ ap (finding_of m a.c a.shape) long in
    let touched = ap (λ (n : ℕ). all_touchable m (span a.c.tp.tag a.c.tp.address n)) (sym long) ∙ sym c.own_touchable.ensures ∙ not-false _ c.if-not-own_touchable.false-raw in
    let p = err_from_is_err_and c.from_residual.result c.from_residual.ensures.1 in
    rw (p.1, p.2) (c.in_err-e.ensures c.requires.all_bytes found ∙ sym (own-touched m a.c a.busy a.shape touched))

pub returns-then-not-span_touchable : goal.returns-then-not-span_touchable
returns-then-not-span_touchable c =
    let a = c.args in
    let m = buffers a.sys.now a.io.now in
    let long = c.requires.count_value in
    let found = c.found-f.ensures ∙ ap (finding_of m a.c a.shape) long in
    let touched = ap (λ (n : ℕ). all_touchable m (span a.c.tp.tag a.c.tp.address n)) (sym long) ∙ sym c.own_touchable.ensures ∙ not-false _ c.if-not-own_touchable.false-raw in
    does-beyond m c.in_ok-e.e _ (c.in_ok-e.ensures c.requires.all_bytes found) (own-touched m a.c a.busy a.shape touched) (sym c.span_touchable.ensures ∙ c.if-not-span_touchable.true)

pub returns : goal.returns
returns c =
    let a = c.args in
    let m = buffers a.sys.now a.io.now in
    let long = c.requires.count_value in
    let found = c.found-f.ensures ∙ ap (finding_of m a.c a.shape) long in
    let touched = ap (λ (n : ℕ). all_touchable m (span a.c.tp.tag a.c.tp.address n)) (sym long) ∙ sym c.own_touchable.ensures ∙ not-false _ c.if-not-own_touchable.false-raw in
    let sum = c.wrapping_add_u32-2.ensures.value ∙ ap (λ (n : ℕ). (a.count + n) % 4294967296) c.wrapping_add_u32.ensures.value in
    does-planned m c.in_ok-e.e _ _ a.count _ (c.in_ok-e.ensures c.requires.all_bytes found) (own-touched m a.c a.busy a.shape touched) (sym c.span_touchable.ensures ∙ c.if-not-span_touchable.false) long sum (reads-most m a.c a.busy a.shape)
