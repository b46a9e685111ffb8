-- `assembler_forms::operands::plain` meets its contract.
-- Assumes nothing.
use mathlib.Core.Path.{sym, ◌∙◌}
use mathlib.Core.Bool.{true, false}
use Rattle.assembler_forms.proofs.FormLaws.{form-none, form-plain, form-offset, plain-stops, plain_other, plain-offset, sum-some, sum-none}
use Rattle.assembler_forms.proofs.operands.plain.Goals as goal

pub returns-then-stops : goal.returns-then-stops
returns-then-stops c = let text = c.args.text.now in form-plain text c.args.mm _ (plain-stops text c.args.at c.args.mm (sym c.stops.ensures ∙ c.if-stops.true))

pub returns-in_err-offset : goal.returns-in_err-offset
returns-in_err-offset c = let text = c.args.text.now in rw c.from_residual.ensures (form-none text _ (plain_other text c.args.at c.args.mm (sym c.stops.ensures ∙ c.if-stops.false) (sym c.past.ensures ∙ c.in_err-offset.was)))

pub returns-in_err-sum : goal.returns-in_err-sum
returns-in_err-sum c = let text = c.args.text.now in rw c.from_residual-in_err-sum.ensures (form-none text _ (plain-offset text c.args.at c.args.mm _ (sym c.past.ensures ∙ c.in_ok-offset.was) false (sum-none text _ (sym c.whole_sum.ensures ∙ c.in_err-sum.was))))

pub returns : goal.returns
returns c = let text = c.args.text.now in let t = sum-some text _ _ (sym c.whole_sum.ensures ∙ c.in_ok-sum.was) in form-offset text c.args.mm _ _ _ t (plain-offset text c.args.at c.args.mm _ (sym c.past.ensures ∙ c.in_ok-offset.was) true t.sum)
