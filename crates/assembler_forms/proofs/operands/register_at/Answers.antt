-- `assembler_forms::operands::register_at` meets its contract.
-- Assumes nothing.
use native.Mathlib.Omega.{arith}
use mathlib.Core.Path.{sym, ap, ◌∙◌}
use Rattle.std.specs.Prelude.{Some}
use Rattle.assembler_text.proofs.PlaceLaws.{run_lies}
use Rattle.assembler_forms.proofs.operands.register_at.Goals as goal

pub slice_bounds-register_number-count : goal.slice_bounds-register_number-count
slice_bounds-register_number-count c = omega (arith, (run_lies c.args.text.now c.args.at c.in-Some-Run.from c.in-Some-Run.to (sym c.in-Some-Run.ensures ∙ ap Some c.in-Some-Run.field-0-is)).1)

pub slice_bounds-register_number-start : goal.slice_bounds-register_number-start
slice_bounds-register_number-start c = omega (arith, (run_lies c.args.text.now c.args.at c.in-Some-Run.from c.in-Some-Run.to (sym c.in-Some-Run.ensures ∙ ap Some c.in-Some-Run.field-0-is)).1)

pub slice_bounds-register_number-end : goal.slice_bounds-register_number-end
slice_bounds-register_number-end c = (run_lies c.args.text.now c.args.at c.in-Some-Run.from c.in-Some-Run.to (sym c.in-Some-Run.ensures ∙ ap Some c.in-Some-Run.field-0-is)).2
