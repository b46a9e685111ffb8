-- `transfer::stores::put_two` meets its contract.
-- Assumes nothing.
use borrow.Author.Rules.{rules}
use Prim.Native.Nat.{ℕ}
use borrow.Author.Tests.{not-true, not-false}
use mathlib.Core.Bool.{Bool, true, false, ◌&&◌}
use mathlib.Core.Path.{◌≡◌, refl, sym, ap, ap₂, ◌∙◌}
use Rattle.ground_rules.specs.Buffers.{Buffers, buffers, lent_at, touchable_at}
use Rattle.transfer.proofs.stores.put_two.Goals as goal

-- in system space both places may be touched where both are lent
both-lent : (m : Buffers) (tag : Bool) (a b : ℕ) (x y : Bool) → tag ≡ false → lent_at m false a ≡ x → lent_at m false b ≡ y → x && y ≡ touchable_at m tag a && touchable_at m tag b
unfolding touchable_at
both-lent m tag a b x y e f g = ap₂ (λ (p q : Bool). p && q) (sym f) (sym g) ∙ ap (λ (t : Bool). touchable_at m t a && touchable_at m t b) (sym e)

-- one that is not lent is enough
not-both : (x : Bool) → x && false ≡ false
not-both true = refl
not-both false = refl

pub returns-then-tag : goal.returns-then-tag
unfolding touchable_at
returns-then-tag c = (rw c.if-tag.true, c.store_byte-then-tag.ensures ∙ rw (c.store_byte.ensures, c.if-tag.true))

pub returns-then-not-lent : goal.returns-then-not-lent
returns-then-not-lent c =
    let a = c.args in
    let m = buffers a.sys.now a.io.now in
    (sym (not-both (lent_at m false a.address)) ∙ both-lent m a.tag a.address a.next (lent_at m false a.address) false c.if-tag.false refl (sym c.lent.ensures ∙ not-true _ c.if-not-lent.true-raw), refl)

pub returns-then-not-lent-2 : goal.returns-then-not-lent-2
returns-then-not-lent-2 c =
    let a = c.args in
    (both-lent (buffers a.sys.now a.io.now) a.tag a.address a.next false true c.if-tag.false (sym c.lent-2.ensures ∙ not-true _ c.if-not-lent-2.true-raw) (sym c.lent.ensures ∙ not-false _ c.if-not-lent.false-raw), refl)

pub returns : goal.returns
returns c =
    let a = c.args in (
      both-lent (buffers a.sys.now a.io.now) a.tag a.address a.next true true c.if-tag.false (sym c.lent-2.ensures ∙ not-false _ c.if-not-lent-2.false-raw) (sym c.lent.ensures ∙ not-false _ c.if-not-lent.false-raw),
      c.store_byte-3.ensures ∙ rw (c.store_byte-2.ensures, c.if-tag.false),
    )
