-- `assembler::passes::check_line` meets its contract.
-- Assumes nothing.
use native.Mathlib.Omega.{arith}
use mathlib.Core.Path.{◌≡◌, sym, subst, ◌∙◌}
use Rattle.std.proofs.Common.{rules, tests}
use Rattle.std.specs.declared.result.Result.TheVariants.{Err}
use Rattle.std.specs.Prelude.{Result}
use Rattle.assembler_lines.specs.declared.bodies.Body.{Body}
use Rattle.assembler_lines.specs.declared.bodies.LineRefusal.{LineRefusal}
use Rattle.assembler_lines.specs.Bodies.{BodyIs}
use Rattle.assembler.proofs.WalkLaws.{stands-first, line-shows, line-unkept, line-wrong, line-room-none, line-right}
use Rattle.assembler.proofs.passes.check_line.Goals as goal

pub returns-in_err-line : goal.returns-in_err-line
returns-in_err-line c s is size before =
    let err : c.from_residual.result ≡ Err c.in_err-line.field-0.0 = search (rules, tests) in
    rw err (line-shows _ _ c.args.address before c.args.left c.args.text.now _ s _ (subst (λ (x : Result Body LineRefusal). BodyIs c.args.text.now x s) c.in_err-line.was is))

pub returns-then-not-label_stands : goal.returns-then-not-label_stands
returns-then-not-label_stands c s is size before =
    let a = c.args in
    let text = a.text.now in
    let says = subst (λ (x : Result Body LineRefusal). BodyIs text x s) c.in_ok-line.was is in
    let stands = stands-first text a.labels.now.places.now a.labels.now.addresses.now a.count _ _ c.first.ensures.places_kept c.first.ensures.addresses_kept _ a.address _ (c.label_stands.ensures a.address) in
    line-unkept _ _ a.address before a.left text _ s _ says (sym c.if-not-label_stands.true ∙ stands)

pub returns-in_err-check : goal.returns-in_err-check
returns-in_err-check c s is size before =
    let a = c.args in
    let text = a.text.now in
    let says = subst (λ (x : Result Body LineRefusal). BodyIs text x s) c.in_ok-line.was is in
    let stands = stands-first text a.labels.now.places.now a.labels.now.addresses.now a.count _ _ c.first.ensures.places_kept c.first.ensures.addresses_kept _ a.address _ (c.label_stands.ensures a.address) in
    let err : c.from_residual-in_err-check.result ≡ Err c.in_err-check.field-0.0 = search (rules, tests) in
    rw err (line-wrong _ _ a.address before a.left text _ s _ says (sym c.if-not-label_stands.false ∙ stands) _ (c.in_err-check.ensures s is))

pub returns-then-left-line : goal.returns-then-left-line
returns-then-left-line c s is size before =
    let a = c.args in
    let text = a.text.now in
    let says = subst (λ (x : Result Body LineRefusal). BodyIs text x s) c.in_ok-line.was is in
    let stands = stands-first text a.labels.now.places.now a.labels.now.addresses.now a.count _ _ c.first.ensures.places_kept c.first.ensures.addresses_kept _ a.address _ (c.label_stands.ensures a.address) in
    line-room-none _ _ a.address before a.left text _ s _ says (sym c.if-not-label_stands.false ∙ stands) (c.in_ok-check.ensures s is) (omega (arith, c.if-left-line.true, size))

pub returns : goal.returns
returns c s is size before =
    let a = c.args in
    let text = a.text.now in
    let says = subst (λ (x : Result Body LineRefusal). BodyIs text x s) c.in_ok-line.was is in
    let stands = stands-first text a.labels.now.places.now a.labels.now.addresses.now a.count _ _ c.first.ensures.places_kept c.first.ensures.addresses_kept _ a.address _ (c.label_stands.ensures a.address) in
    line-right _ _ a.address before a.left text _ s _ says (sym c.if-not-label_stands.false ∙ stands) (c.in_ok-check.ensures s is) (omega (arith, c.if-left-line.false, size))
