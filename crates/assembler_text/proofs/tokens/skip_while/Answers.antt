-- `assembler_text::tokens::skip_while` meets its contract. The loop's invariant: the place and what still passes the test come to the same.
-- Assumes nothing.
use mathlib.Core.Path.{◌≡◌, refl, sym, ◌∙◌}
use mathlib.Core.Bool.{Bool, true, false}
use native.Mathlib.Omega.{arith}
use lib.Dec.{leb}
use Prim.Native.Nat.{◌+◌}
use lib.ListN.{length, drop}
use borrow.Author.Tests.{leb-true, leb-false}
use Rattle.assembler_text.specs.Places.{leading}
use Rattle.assembler_text.proofs.PlaceLaws.{lead-end, lead-here, lead-next}
use Rattle.assembler_text.proofs.tokens.skip_while.Goals as goal

pub returns-then-not-passes : goal.returns-then-not-passes
returns-then-not-passes g c test h =
    let l = c.loop-i in
    omega (arith, l.invariant test h, lead-here test c.args.text.now l.i c.loop-i-test.true (sym (h _ _ c.passes.ensures) ∙ c.if-not-passes.true))

pub loop-i-preserved : goal.loop-i-preserved
loop-i-preserved g c test h =
    let l = c.loop-i in
    omega (arith, l.invariant test h, lead-next test c.args.text.now l.i c.loop-i-test.true (sym (h _ _ c.passes.ensures) ∙ c.if-not-passes.false))

pub returns : goal.returns
returns g c test h = last-of (leb (length c.args.text.now) c.args.at) refl
  where
    last-of : (b : Bool) → leb (length c.args.text.now) c.args.at ≡ b → c.max.result ≡ c.args.at + leading test (drop c.args.at c.args.text.now)
    last-of true e = let l = leb-true _ _ e in omega (arith, c.max.ensures, lead-end test c.args.text.now c.args.at l)
    last-of false e = let l = leb-false _ _ e in omega (arith, c.max.ensures, c.loop-i.invariant test h, c.loop-i-test.false, c.loop-i.auto.i-end (omega (arith, l)), lead-end test c.args.text.now c.loop-i.i c.loop-i-test.false)
