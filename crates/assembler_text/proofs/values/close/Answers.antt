-- `assembler_text::values::close` meets its contract.
-- Assumes nothing.
use Rattle.std.proofs.Common.{rules, tests, ◌≡◌, false}
use mathlib.Core.Path.{sym, ap, ◌∙◌}
use Rattle.std.specs.declared.option.Option.TheVariants.{Some}
use Rattle.assembler_text.specs.Places.{token_at}
use Rattle.assembler_text.specs.Reads.{closed_as}
use Rattle.assembler_text.proofs.ReadLaws.{closes_by, close-wrong, close-reads}
use Rattle.assembler_text.proofs.values.close.Goals as goal

pub returns-in-Some-Mark-eq41-default : goal.returns-in-Some-Mark-eq41-default
returns-in-Some-Mark-eq41-default c w = let mark = c.in-Some-Mark-eq41-default in sym (close-reads c.args.text.now c.args.at w _ _ (sym mark.ensures ∙ ap Some mark.field-0-is) mark.field-0-0-test)

pub returns-in_default : goal.returns-in_default
unfolding closed_as
returns-in_default c w = let none : closes_by (token_at c.args.text.now c.args.at) ≡ false = search (rules, tests) in sym (close-wrong c.args.text.now c.args.at w none)

pub returns-in_default-2 : goal.returns-in_default-2
unfolding closed_as
returns-in_default-2 c w = let none : closes_by (token_at c.args.text.now c.args.at) ≡ false = search (rules, tests) in sym (close-wrong c.args.text.now c.args.at w none)

pub returns-in_default-3 : goal.returns-in_default-3
unfolding closed_as
returns-in_default-3 c w = let none : closes_by (token_at c.args.text.now c.args.at) ≡ false = search (rules, tests) in sym (close-wrong c.args.text.now c.args.at w none)
