-- `execute::windows::eight` meets its contract.
-- Assumes nothing.
use Rattle.std.proofs.Common.{◌≡◌, Bool, true, false, sym, ap, ◌∙◌, subst, arith}
use Rattle.ground_rules.specs.Buffers.{buffers, space_of, limit_of, index_of}
use Rattle.ground_rules.specs.Places.{span, all_touchable}
use Rattle.ground_rules.proofs.ByteLaws.{all-bytes}
use Rattle.ground_rules.proofs.ChoiceLaws.{apart}
use Rattle.execute.specs.Bytes.{eight_at}
use Rattle.execute.proofs.PieceLaws.{piece-in, eight-piece, piece-touchable}
use Rattle.execute.proofs.windows.eight.Goals as goal

pub eight_of-requires : goal.eight_of-requires
unfolding space_of limit_of index_of
eight_of-requires c =
    let a = c.args in
    piece-in (buffers a.sys.now a.io.now) true a.address 8 (rw c.within.ensures at c.if-at-within.true)

pub returns-then-at-within : goal.returns-then-at-within
unfolding space_of limit_of index_of
returns-then-at-within c =
    let a = c.args in
    let m = buffers a.sys.now a.io.now in
    let e = sym c.if-tag.true in
    let piece = rw c.within.ensures at c.if-at-within.true in record { known = all-bytes a.sys.now a.io.now (λ i. omega (arith, c.shared_slice_known-1.given i)) (λ i. omega (arith, c.shared_slice_known-2-1.given i)); bytes = c.eight_of.ensures ∙ eight-piece m true a.address piece ∙ ap (λ (t : Bool). eight_at m t a.address) e; near = λ n few near. subst (λ (t : Bool). all_touchable m (span t a.address n) ≡ true) e (piece-touchable m true a.address n piece few) }

pub eight_of-requires-then-at-within-2 : goal.eight_of-requires-then-at-within-2
unfolding space_of limit_of index_of
eight_of-requires-then-at-within-2 c =
    let a = c.args in
    piece-in (buffers a.sys.now a.io.now) false a.address 8 (rw c.within-else-tag.ensures at c.if-at-within-2.true)

pub returns-then-at-within-2 : goal.returns-then-at-within-2
unfolding space_of limit_of index_of
returns-then-at-within-2 c =
    let a = c.args in
    let m = buffers a.sys.now a.io.now in
    let e = sym c.if-tag.false in
    let piece = rw c.within-else-tag.ensures at c.if-at-within-2.true in record { known = all-bytes a.sys.now a.io.now (λ i. omega (arith, c.shared_slice_known-1.given i)) (λ i. omega (arith, c.shared_slice_known-2-1.given i)); bytes = c.eight_of-then-at-within-2.ensures ∙ eight-piece m false a.address piece ∙ ap (λ (t : Bool). eight_at m t a.address) e; near = λ n few near. subst (λ (t : Bool). all_touchable m (span t a.address n) ≡ true) e (piece-touchable m false a.address n piece few) }

pub returns : goal.returns
returns c =
    let a = c.args in record { known = all-bytes a.sys.now a.io.now (λ i. omega (arith, c.shared_slice_known-1.given i)) (λ i. omega (arith, c.shared_slice_known-2-1.given i)); bytes = c.eight_apart.ensures; near = λ n few near. apart (sym near) }
