-- `assembler_forms::operands::operand` meets its contract.
-- Assumes nothing.
use borrow.Author.Tests.{lt-ltb, le-ltb}
use mathlib.Core.Bool.{true, false}
use mathlib.Core.Path.{sym, ◌∙◌}
use Rattle.assembler_forms.proofs.FormLaws.{form-alone, form-none, form-value, formed-as, operand-memory, operand-value, sum-some, sum-none}
use Rattle.assembler_forms.proofs.operands.operand.Goals.{then-named-lt8, else-named-lt8}
use Rattle.assembler_forms.proofs.operands.operand.Goals as goal

pub returns-in-Some : goal.returns-in-Some
returns-in-Some c = let text = c.args.text.now in formed-as text _ c.memory.ensures (sym (operand-memory text c.args.at _ (sym c.past.ensures ∙ c.in-Some.is)))

pub returns-in-Some-register_at : goal.returns-in-Some-register_at
returns-in-Some-register_at c =
    let text = c.args.text.now in
    let here = sym c.register_at.ensures ∙ c.in-Some-register_at.is in
    rw c.then_some.ensures
    (form-alone text c.args.at _ here _
    (elim c.if-named-lt8.branch [ then-named-lt8 w ↦ w.alone-is ∙ w.stops-alone.ensures ∙ rw (lt-ltb c.in-Some-register_at.named.number 8 w.if-named-lt8.true) | else-named-lt8 w ↦ w.alone-is ∙ rw (le-ltb c.in-Some-register_at.named.number 8 w.if-named-lt8.false) ]))

pub returns-in_err-sum : goal.returns-in_err-sum
returns-in_err-sum c = let text = c.args.text.now in rw c.from_residual.ensures (form-none text _ (operand-value text c.args.at (sym c.past.ensures ∙ c.in_default.is) (sym c.register_at.ensures ∙ c.in_default-register_at.is) false (sum-none text c.args.at (sym c.whole_sum.ensures ∙ c.in_err-sum.was))))

pub returns : goal.returns
returns c =
    let text = c.args.text.now in
    let t = sum-some text _ _ (sym c.whole_sum.ensures ∙ c.in_ok-sum.was) in
    form-value text c.args.at _ _ t (operand-value text c.args.at (sym c.past.ensures ∙ c.in_default.is) (sym c.register_at.ensures ∙ c.in_default-register_at.is) true t.sum)
