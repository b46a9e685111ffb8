-- `panel::quiet::reach` meets its contract.
-- Assumes nothing.
use Prim.Native.Nat.{ℕ, ◌-◌, ◌/◌, ◌<◌}
use borrow.Author.Tests.{not-false, ltb-true}
use lib.Dec.{eqb, ltb}
use mathlib.Core.Bool.{Bool, true, not, ◌&&◌}
use mathlib.Core.Path.{◌≡◌, ap, ◌∙◌}
use native.Mathlib.Omega.{arith}
use Rattle.ground_rules.proofs.ChoiceLaws.{both_right}
use Rattle.ground_rules.specs.Choice.{pick}
use Rattle.ground_rules.specs.Sums.{count_down}
use Rattle.panel.proofs.QuietLaws.{reached-none, reached-count, reached-all}
use Rattle.panel.proofs.quiet.reach.Goals as goal

-- what the test says of the count
nearer : (x left few : ℕ) → not (eqb x 0) && ltb left few ≡ true → left < few
nearer x left few e = ltb-true left few (both_right (not (eqb x 0)) (ltb left few) e)

-- the steps that the count leaves
steps : (two : Bool) (left bytes bc count : ℕ) → left ≡ pick two (bytes / 2) bytes → bytes ≡ count_down bc 1 → bc ≡ count → left ≡ pick two (count_down count 1 / 2) (count_down count 1)
steps two left bytes bc count el eb ec = el ∙ ap (λ (n : ℕ). pick two (n / 2) n) (eb ∙ ap (λ (n : ℕ). count_down n 1) ec)

pub returns-then-not-quiet : goal.returns-then-not-quiet
returns-then-not-quiet c = let a = c.args in reached-none a.two a.quiet a.c a.from a.stop c.requires.0

pub overflow_add-result : goal.overflow_add-result
overflow_add-result c =
    let a = c.args in
    omega (arith, nearer a.c.fields.countEnd c.in_steps-left.result (a.stop - a.from) c.if-f-left.true, c.ranges.stop.fits)

pub returns-then-f-left : goal.returns-then-f-left
returns-then-f-left c =
    let a = c.args in
    reached-count a.two a.quiet a.c a.from a.stop c.in_steps-left.result (omega (arith, c.ranges.bc.fits, c.requires.1))
    (steps a.two c.in_steps-left.result c.count_down.result a.bc a.c.bc c.in_steps-left.ensures c.count_down.ensures c.requires.1) (not-false _ c.if-not-quiet.false-raw)
    (nearer a.c.fields.countEnd c.in_steps-left.result (a.stop - a.from) c.if-f-left.true)

pub returns : goal.returns
returns c =
    let a = c.args in
    reached-all a.two a.quiet a.c a.from a.stop c.in_steps-left.result (omega (arith, c.ranges.bc.fits, c.requires.1))
    (steps a.two c.in_steps-left.result c.count_down.result a.bc a.c.bc c.in_steps-left.ensures c.count_down.ensures c.requires.1) (not-false _ c.if-not-quiet.false-raw)
    c.requires.0 c.if-f-left.false
