-- `assembler_lines::lines::head` meets its contract.
-- Assumes nothing.
use native.Mathlib.Omega.{arith}
use mathlib.Core.Path.{sym, ap, ◌∙◌}
use Rattle.assembly_rules.specs.Text.{is_digit}
use Rattle.assembler_text.proofs.PlaceLaws.{run_lies}
use Rattle.assembler_lines.proofs.HeadLaws.{head-bare, head-digit, head-plain, head-named, run-some}
use Rattle.assembler_lines.proofs.lines.head.Goals as goal

pub bounds-text-name : goal.bounds-text-name
bounds-text-name c = let l = run_lies c.args.text.now c.args.at _ _ (run-some c.args.text.now c.args.at _ (sym c.in-Some.ensures)) in omega (arith, l.1, l.2)

pub returns-in_default : goal.returns-in_default
returns-in_default c = head-bare c.args.text.now c.args.at (sym c.in_default.ensures)

pub returns-then-is_digit : goal.returns-then-is_digit
returns-then-is_digit c = let text = c.args.text.now in head-digit text c.args.at _ _ (run-some text c.args.at _ (sym c.in-Some.ensures)) (sym (c.is_digit.ensures ∙ ap is_digit c.capital.ensures) ∙ c.if-is_digit.true)

pub returns-in-Some-past : goal.returns-in-Some-past
returns-in-Some-past c = let text = c.args.text.now in head-named text c.args.at _ _ (run-some text c.args.at _ (sym c.in-Some.ensures)) _ (sym c.in-Some-past.ensures) (sym (c.is_digit.ensures ∙ ap is_digit c.capital.ensures) ∙ c.if-is_digit.false)

pub returns-in-None : goal.returns-in-None
returns-in-None c = let text = c.args.text.now in head-plain text c.args.at _ _ (run-some text c.args.at _ (sym c.in-Some.ensures)) (sym c.in-None.ensures)
