-- `transfer::stores::end_from` meets its contract.
-- Assumes nothing.
use borrow.Author.Rules.{rules}
use Prim.Native.Nat.{ℕ}
use borrow.Author.Tests.{not-true, ltb-true}
use lib.Dec.{eqb, ltb}
use mathlib.Core.Bool.{Bool, true, false, not, ◌&&◌}
use mathlib.Core.Path.{◌≡◌, refl, sym, ap, ap₂, ◌∙◌}
use native.Mathlib.Omega.{arith}
use Rattle.ground_rules.proofs.ChoiceLaws.{both_left, both_right}
use Rattle.ground_rules.specs.Choice.{pick}
use Rattle.transfer_rules.specs.Ends.{code_if, larger}
use Rattle.transfer.proofs.stores.end_from.Goals as goal

-- no code is larger than none
larger-none : (a : ℕ) → larger a 0 ≡ a
unfolding larger
larger-none a = go (ltb a 0) refl
  where
    go : (x : Bool) → ltb a 0 ≡ x → pick x 0 a ≡ a
    go true e = absurd (omega (arith, ltb-true a 0 e))
    go false e = refl

-- where neither the count nor TS ends it, the masked compare decides
compared : (a bc code : ℕ) (single : Bool) → not (eqb bc 0) && not single ≡ true → a ≡ larger (larger a (code_if (eqb bc 0) code)) (code_if single 1)
unfolding code_if
compared a bc code single e =
    let b = not-true (eqb bc 0) (both_left (not (eqb bc 0)) (not single) e) in
    let s = not-true single (both_right (not (eqb bc 0)) (not single) e) in
    sym (ap₂ (λ (x y : Bool). larger (larger a (code_if x code)) (code_if y 1)) b s ∙ ap (λ (x : ℕ). larger x 0) (larger-none a) ∙ larger-none a)

pub returns-then-bc-f : goal.returns-then-bc-f
returns-then-bc-f c = let a = c.args in compared a.matched a.bc a.c.fields.countEnd a.c.fields.singleTransfer c.if-bc-f.true

pub returns : goal.returns
returns c = simp (c.larger-2.ensures, c.larger.ensures, c.code_if-single.ensures, c.code_if-counted.ensures)
