-- `assembler_lines::lines::items` meets its contract. The loop's invariant: items passed so far.
-- Assumes nothing.
use native.Mathlib.Omega.{arith}
use Prim.Native.Nat.{ℕ, ◌*◌, ◌<◌}
use mathlib.Core.Bool.{Bool}
use mathlib.Core.Path.{◌≡◌, sym, ap, subst, ◌∙◌}
use Rattle.std.proofs.Common.{rules, tests}
use Rattle.std.specs.declared.option.Option.TheVariants.{None, Some}
use Rattle.std.specs.declared.result.Result.TheVariants.{Err}
use Rattle.assembler_lines.specs.declared.bodies.LineRefusal.TheVariants.{UnknownForm}
use Rattle.std.specs.Prelude.{Option}
use Rattle.ground_rules.specs.Choice.{pick}
use Rattle.assembler_forms.specs.Rows.{left_behind}
use Rattle.assembler_forms.proofs.RowLaws.{part-behind}
use Rattle.assembler_lines.proofs.ItemLaws.{PassedTo, item-passed, items-wrong, items-deep, items-are}
use Rattle.assembler_lines.proofs.lines.items.Goals as goal

pub returns-in_err-sum : goal.returns-in_err-sum
returns-in_err-sum c =
    let l = c.loop-part in
    let text = c.args.text.now in
    let at = c.args.at in
    let none : c.whole_sum.result ≡ None = search (rules, tests) in
    let err : c.from_residual.result ≡ Err UnknownForm = search (rules, tests) in
    rw err (items-wrong text at c.in-Some.place l.count l.low (subst (PassedTo text at l.low l.count) c.in-Some.is l.invariant) c.args.two (sym c.whole_sum.ensures ∙ none))

pub loop-part-smaller : goal.loop-part-smaller
loop-part-smaller c =
    let text = c.args.text.now in
    subst (λ (p : Option ℕ). left_behind text c.next_part-part.result < left_behind text p) (sym c.in-Some.is) (part-behind text c.in-Some.place _ c.next_part-part.ensures)

pub loop-part-preserved : goal.loop-part-preserved
loop-part-preserved c =
    let l = c.loop-part in
    let text = c.args.text.now in
    let at = c.args.at in
    let some : c.whole_sum.result ≡ Some c.in_ok-sum.sum = search (rules, tests) in
    item-passed text at c.in-Some.place l.count l.low (subst (PassedTo text at l.low l.count) c.in-Some.is l.invariant) _ (sym c.whole_sum.ensures ∙ some) _ c.next_part-part.ensures

pub returns-then-not-low : goal.returns-then-not-low
returns-then-not-low c = let l = c.loop-part in let text = c.args.text.now in let at = c.args.at in items-deep text at l.count l.low (subst (PassedTo text at l.low l.count) c.in_default.is l.invariant) c.args.two c.if-not-low.true

pub returns-then-two : goal.returns-then-two
returns-then-two c = let l = c.loop-part in let text = c.args.text.now in let at = c.args.at in items-are text at l.count l.low (subst (PassedTo text at l.low l.count) c.in_default.is l.invariant) c.if-not-low.false c.args.two _ (sym (ap (λ (b : Bool). pick b 2 1 * l.count) c.if-two.true))

pub returns-else-two : goal.returns-else-two
returns-else-two c = let l = c.loop-part in let text = c.args.text.now in let at = c.args.at in items-are text at l.count l.low (subst (PassedTo text at l.low l.count) c.in_default.is l.invariant) c.if-not-low.false c.args.two _ (omega (arith, ap (λ (b : Bool). pick b 2 1 * l.count) c.if-two.false))
