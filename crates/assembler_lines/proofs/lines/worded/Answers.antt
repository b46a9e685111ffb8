-- `assembler_lines::lines::worded` meets its contract.
-- Assumes nothing.
use mathlib.Core.Path.{◌≡◌, sym, subst, ◌∙◌}
use lib.ListN.{drop}
use Rattle.assembly_rules.specs.Text.{tokens_of}
use Rattle.std.proofs.Common.{rules, tests}
use Rattle.std.specs.declared.option.Option.TheVariants.{None, Some}
use Rattle.std.specs.declared.result.Result.TheVariants.{Err}
use Rattle.assembler_lines.specs.declared.bodies.LineRefusal.TheVariants.{UnknownForm}
use Rattle.assembler_lines.specs.Bodies.{BodyIs}
use Rattle.assembler_lines.proofs.BodyLaws.{says-bytes, says-words, says_nothing, says-no-form, says-deep, says-form}
use Rattle.assembler_lines.proofs.lines.worded.Goals as goal

pub returns-then-word-eq-DB : goal.returns-then-word-eq-DB
returns-then-word-eq-DB c name k = let text = c.args.text.now in subst (BodyIs text c.items.result) (sym (says-bytes name _ k (tokens_of (drop c.args.at text)) c.if-word-eq-DB.true)) c.items.ensures

pub returns-then-word-eq-DW : goal.returns-then-word-eq-DW
returns-then-word-eq-DW c name k = let text = c.args.text.now in subst (BodyIs text c.items-then-word-eq-DW.result) (sym (says-words name _ k (tokens_of (drop c.args.at text)) c.if-word-eq-DB.false c.if-word-eq-DW.true)) c.items-then-word-eq-DW.ensures

pub returns-then-is_empty : goal.returns-then-is_empty
returns-then-is_empty c name k = let text = c.args.text.now in says_nothing name _ k (tokens_of (drop c.args.at text)) text c.if-word-eq-DB.false c.if-word-eq-DW.false _ c.codes_of-codes.ensures (sym c.is_empty.ensures ∙ c.if-is_empty.true)

pub returns-in_err-code : goal.returns-in_err-code
returns-in_err-code c name k =
    let text = c.args.text.now in
    let none : c.fitting.result ≡ None = search (rules, tests) in
    let err : c.from_residual.result ≡ Err UnknownForm = search (rules, tests) in
    rw err (says-no-form name _ k (tokens_of (drop c.args.at text)) text c.if-word-eq-DB.false c.if-word-eq-DW.false _ c.codes_of-codes.ensures (sym c.is_empty.ensures ∙ c.if-is_empty.false) _ c.operands_at-operands.ensures (sym c.fitting.ensures ∙ none))

pub returns-then-not-are_low : goal.returns-then-not-are_low
returns-then-not-are_low c name k =
    let text = c.args.text.now in
    let code : c.fitting.result ≡ Some c.in_ok-code.code = search (rules, tests) in
    says-deep name _ k (tokens_of (drop c.args.at text)) text c.if-word-eq-DB.false c.if-word-eq-DW.false _ c.codes_of-codes.ensures (sym c.is_empty.ensures ∙ c.if-is_empty.false) _ c.operands_at-operands.ensures _ (sym c.fitting.ensures ∙ code) (sym c.are_low.ensures ∙ c.if-not-are_low.true)

pub returns : goal.returns
returns c name k =
    let text = c.args.text.now in
    let code : c.fitting.result ≡ Some c.in_ok-code.code = search (rules, tests) in
    says-form name _ k (tokens_of (drop c.args.at text)) text c.if-word-eq-DB.false c.if-word-eq-DW.false _ c.codes_of-codes.ensures (sym c.is_empty.ensures ∙ c.if-is_empty.false) _ c.operands_at-operands.ensures _ (sym c.fitting.ensures ∙ code) (sym c.are_low.ensures ∙ c.if-not-are_low.false)
