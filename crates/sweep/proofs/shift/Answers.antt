-- `sweep::shift` meets its contract. The loop's invariant: i bytes have been put elsewhere, and the length is what it was.
-- Assumes nothing.
use borrow.Author.Rules.{rules}
use lib.ListN.{length-set}
use mathlib.Core.Path.{◌≡◌, ◌∙◌}
use native.Mathlib.Numerals.{add-one}
use native.Mathlib.Omega.{arith}
use Rattle.sweep.specs.Loops.{shifted}
use Rattle.sweep.proofs.shift.Goals as goal

pub loop-i-init : goal.loop-i-init
unfolding shifted
loop-i-init c = search rules

pub loop-i-preserved : goal.loop-i-preserved
unfolding shifted
loop-i-preserved c =
    let l = c.loop-i in
    (search rules, simp length-set l.invariant.1, rw (add-one, ← l.invariant.2))

pub returns : goal.returns
returns c =
    let l = c.loop-i in
    let e : l.i ≡ c.args.n = omega arith in
    l.invariant.2 ∙ rw e
