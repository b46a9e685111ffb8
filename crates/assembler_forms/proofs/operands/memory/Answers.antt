-- `assembler_forms::operands::memory` meets its contract.
-- Assumes nothing.
use mathlib.Core.Path.{sym, ◌∙◌}
use Rattle.assembler_forms.proofs.FormLaws.{form-none, formed-as, memory-unnamed, memory-not, memory-closed, memory-plus, memory-other}
use Rattle.assembler_forms.proofs.operands.memory.Goals as goal

pub returns-in_err-named : goal.returns-in_err-named
returns-in_err-named c = let text = c.args.text.now in rw c.from_residual.ensures (form-none text _ (memory-unnamed text c.args.at (sym c.register_at.ensures ∙ c.in_err-named.was)))

pub returns-in_err-mm : goal.returns-in_err-mm
returns-in_err-mm c = let text = c.args.text.now in rw c.from_residual-in_err-mm.ensures (form-none text _ (memory-not text c.args.at _ (sym c.register_at.ensures ∙ c.in_ok-named.was) (sym c.base.ensures ∙ c.in_err-mm.was)))

pub returns-in-Some : goal.returns-in-Some
returns-in-Some c = let text = c.args.text.now in formed-as text _ c.plain.ensures (sym (memory-closed text c.args.at _ (sym c.register_at.ensures ∙ c.in_ok-named.was) _ (sym c.base.ensures ∙ c.in_ok-mm.was) _ (sym c.past.ensures ∙ c.in-Some.is)))

pub returns-in_err-plus : goal.returns-in_err-plus
returns-in_err-plus c = let text = c.args.text.now in rw c.from_residual-in_err-plus.ensures (form-none text _ (memory-other text c.args.at _ (sym c.register_at.ensures ∙ c.in_ok-named.was) _ (sym c.base.ensures ∙ c.in_ok-mm.was) (sym c.past.ensures ∙ c.in_default.is) (sym c.past-2.ensures ∙ c.in_err-plus.was)))

pub returns : goal.returns
returns c = let text = c.args.text.now in formed-as text _ c.indexed.ensures (sym (memory-plus text c.args.at _ (sym c.register_at.ensures ∙ c.in_ok-named.was) _ (sym c.base.ensures ∙ c.in_ok-mm.was) _ (sym c.past-2.ensures ∙ c.in_ok-plus.was)))
