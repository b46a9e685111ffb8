-- `assembler_lines::lines::body` meets its contract.
-- Assumes nothing.
use native.Mathlib.Omega.{arith}
use mathlib.Core.Path.{sym, ap, subst, ◌∙◌}
use Rattle.std.specs.Prelude.{Some}
use Rattle.assembly_rules.specs.Statements.{statement_of}
use Rattle.assembler_text.proofs.PlaceLaws.{run_lies, run-tokens}
use Rattle.assembler_lines.specs.Bodies.{BodyIs}
use Rattle.assembler_lines.proofs.BodyLaws.{body-none, body-mark}
use Rattle.assembler_lines.proofs.lines.body.Goals as goal

pub slice_bounds-run_number-count : goal.slice_bounds-run_number-count
slice_bounds-run_number-count c = omega (arith, (run_lies c.args.text.now c.args.at c.in-Some-Run.from c.in-Some-Run.to (sym c.in-Some-Run.ensures ∙ ap Some c.in-Some-Run.field-0-is)).1)

pub slice_bounds-run_number-start : goal.slice_bounds-run_number-start
slice_bounds-run_number-start c = omega (arith, (run_lies c.args.text.now c.args.at c.in-Some-Run.from c.in-Some-Run.to (sym c.in-Some-Run.ensures ∙ ap Some c.in-Some-Run.field-0-is)).1)

pub slice_bounds-run_number-end : goal.slice_bounds-run_number-end
slice_bounds-run_number-end c = (run_lies c.args.text.now c.args.at c.in-Some-Run.from c.in-Some-Run.to (sym c.in-Some-Run.ensures ∙ ap Some c.in-Some-Run.field-0-is)).2

pub worded-requires : goal.worded-requires
worded-requires c = omega (arith, (run_lies c.args.text.now c.args.at c.in-Some-Run.from c.in-Some-Run.to (sym c.in-Some-Run.ensures ∙ ap Some c.in-Some-Run.field-0-is)).1)

pub returns-in-None : goal.returns-in-None
returns-in-None c = body-none c.args.text.now c.args.at (sym c.in-None.ensures)

pub returns-in-Some-Mark : goal.returns-in-Some-Mark
returns-in-Some-Mark c = body-mark c.args.text.now c.args.at _ _ (sym c.in-Some-Mark.ensures ∙ ap Some c.in-Some-Mark.field-0-is)

pub returns-in-Some-Run : goal.returns-in-Some-Run
returns-in-Some-Run c = let text = c.args.text.now in subst (BodyIs text c.worded.result) (sym (ap statement_of (run-tokens text c.args.at _ _ (sym c.in-Some-Run.ensures ∙ ap Some c.in-Some-Run.field-0-is)))) (c.worded.ensures _ c.run_number-word.ensures)
