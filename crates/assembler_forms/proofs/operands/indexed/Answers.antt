-- `assembler_forms::operands::indexed` meets its contract.
-- Assumes nothing.
use mathlib.Core.Path.{sym, ◌∙◌}
use mathlib.Core.Bool.{true, false}
use Rattle.assembler_forms.proofs.FormLaws.{form-none, form-if, form-indexed, form-stepped, indexed-not, indexed_other, indexed-is, ended-closed, ended-not, ended-grown-not, ended-grown}
use Rattle.assembler_forms.proofs.operands.indexed.Goals as goal

pub returns-in_err-ix : goal.returns-in_err-ix
returns-in_err-ix c = let text = c.args.text.now in rw c.from_residual.ensures (form-none text _ (indexed-not text c.args.at c.args.mm (sym c.register_at.ensures ∙ c.in_err-ix.was)))

pub returns-then-ix-ne5 : goal.returns-then-ix-ne5
returns-then-ix-ne5 c = let text = c.args.text.now in form-none text _ (indexed_other text c.args.at c.args.mm _ (sym c.register_at.ensures ∙ c.in_ok-ix.was) c.if-ix-ne5.true)

pub returns-in-Some : goal.returns-in-Some
returns-in-Some c =
    let text = c.args.text.now in
    let here = indexed-is text c.args.at c.args.mm _ (sym c.register_at.ensures ∙ c.in_ok-ix.was) c.if-ix-ne5.false in
    let closed = sym c.past.ensures ∙ c.in-Some.is in
    rw c.then_some.ensures
    (form-if text _ _ _ (λ e. form-indexed text c.args.mm _ (here ∙ ended-closed text _ c.args.mm _ closed true (sym c.stops.ensures ∙ e))) (λ e. form-none text _ (here ∙ ended-closed text _ c.args.mm _ closed false (sym c.stops.ensures ∙ e))))

pub returns-in_err-grown : goal.returns-in_err-grown
returns-in_err-grown c =
    let text = c.args.text.now in
    let here = indexed-is text c.args.at c.args.mm _ (sym c.register_at.ensures ∙ c.in_ok-ix.was) c.if-ix-ne5.false in
    rw c.from_residual-in_err-grown.ensures (form-none text _ (here ∙ ended-not text _ c.args.mm (sym c.past.ensures ∙ c.in_default.is) (sym c.past-2.ensures ∙ c.in_err-grown.was)))

pub returns-in_err-last : goal.returns-in_err-last
returns-in_err-last c =
    let text = c.args.text.now in
    let here = indexed-is text c.args.at c.args.mm _ (sym c.register_at.ensures ∙ c.in_ok-ix.was) c.if-ix-ne5.false in
    rw c.from_residual-in_err-last.ensures (form-none text _ (here ∙ ended-grown-not text _ c.args.mm _ (sym c.past-2.ensures ∙ c.in_ok-grown.was) (sym c.past-3.ensures ∙ c.in_err-last.was)))

pub returns : goal.returns
returns c =
    let text = c.args.text.now in
    let here = indexed-is text c.args.at c.args.mm _ (sym c.register_at.ensures ∙ c.in_ok-ix.was) c.if-ix-ne5.false in
    let grown = ended-grown text _ c.args.mm _ _ (sym c.past-2.ensures ∙ c.in_ok-grown.was) (sym c.past-3.ensures ∙ c.in_ok-last.was) in
    rw c.then_some-2.ensures
    (form-if text _ _ _ (λ e. form-stepped text c.args.mm _ (here ∙ grown true (sym c.stops-2.ensures ∙ e))) (λ e. form-none text _ (here ∙ grown false (sym c.stops-2.ensures ∙ e))))
