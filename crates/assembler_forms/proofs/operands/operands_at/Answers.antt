-- `assembler_forms::operands::operands_at` meets its contract.
-- Assumes nothing.
use mathlib.Core.Path.{sym, ◌∙◌}
use Rattle.assembler_forms.specs.Rows.RowIs.{none}
use Rattle.assembler_forms.proofs.RowLaws.{row-some, row-empty, row_one, row_two, row_three, row-over}
use Rattle.assembler_forms.proofs.operands.operands_at.Goals as goal

pub returns-then-ends : goal.returns-then-ends
returns-then-ends c = let text = c.args.text.now in rw (row-empty text c.args.at (sym c.ends.ensures ∙ c.if-ends.true)) none

pub returns-in_default : goal.returns-in_default
returns-in_default c = let text = c.args.text.now in rw (row-some text c.args.at (sym c.ends.ensures ∙ c.if-ends.false)) (row_one text c.args.at _ c.operand-first.ensures (sym c.in_default.ensures))

pub returns-in_default-next_part : goal.returns-in_default-next_part
returns-in_default-next_part c = let text = c.args.text.now in rw (row-some text c.args.at (sym c.ends.ensures ∙ c.if-ends.false)) (row_two text c.args.at _ c.operand-first.ensures _ (sym c.in-Some.ensures) _ c.operand-second.ensures (sym c.in_default-next_part.ensures))

pub returns-in-Some-next_part-2 : goal.returns-in-Some-next_part-2
returns-in-Some-next_part-2 c = let text = c.args.text.now in rw (row-some text c.args.at (sym c.ends.ensures ∙ c.if-ends.false)) (row-over text c.args.at _ c.operand-first.ensures _ (sym c.in-Some.ensures) _ c.operand-second.ensures _ (sym c.in-Some-next_part.ensures) _ c.operand.ensures _ (sym c.in-Some-next_part-2.ensures))

pub returns-in-None : goal.returns-in-None
returns-in-None c = let text = c.args.text.now in rw (row-some text c.args.at (sym c.ends.ensures ∙ c.if-ends.false)) (row_three text c.args.at _ c.operand-first.ensures _ (sym c.in-Some.ensures) _ c.operand-second.ensures _ (sym c.in-Some-next_part.ensures) _ c.operand.ensures (sym c.in-None.ensures))
