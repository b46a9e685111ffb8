-- `assembler_forms::operands::whole_sum` meets its contract.
-- Assumes nothing.
use mathlib.Core.Path.{◌∙◌}
use Rattle.assembler_forms.proofs.FormLaws.{whole-told}
use Rattle.assembler_forms.proofs.operands.whole_sum.Goals as goal

pub returns : goal.returns
returns c = c.then_some.ensures ∙ whole-told c.args.text.now c.args.place _ _ c.scan-scanned.ensures c.is_whole.ensures
