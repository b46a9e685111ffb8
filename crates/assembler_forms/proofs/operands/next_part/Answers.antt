-- `assembler_forms::operands::next_part` meets its contract.
-- Assumes nothing.
use native.Mathlib.Omega.{arith}
use mathlib.Core.Path.{sym, ◌∙◌}
use Rattle.assembler_forms.proofs.RowLaws.{comma-inside}
use Rattle.assembler_forms.proofs.operands.next_part.Goals as goal

pub overflow_add-result : goal.overflow_add-result
overflow_add-result c = omega (arith, comma-inside c.args.text.now _ (sym c.comma_at.ensures ∙ c.if-comma_at.true))
