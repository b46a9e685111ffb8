-- `execute::windows::eight_apart` meets its contract.
-- Assumes nothing.
use Rattle.std.proofs.Common.{◌%◌, Bool, true, false, sym, ap, ◌∙◌, arith}
use Rattle.ground_rules.specs.Buffers.{buffers, space_of, limit_of, index_of, beyond_in}
use Rattle.execute.specs.Bytes.{eight_at}
use Rattle.execute.proofs.PieceLaws.{over-tests, over-end}
use Rattle.execute.proofs.WindowLaws.{four-sum}
use Rattle.execute.proofs.windows.eight_apart.Goals as goal

pub about_end-requires : goal.about_end-requires
about_end-requires c =
    let h = over-tests (c.args.address % 65536) c.within-end.result c.if-end-at.true in
    (c.within-end.ensures, h.0, h.1, h.2)

pub returns-then-end-at : goal.returns-then-end-at
unfolding space_of limit_of index_of beyond_in
returns-then-end-at c =
    let a = c.args in
    let m = buffers a.sys.now a.io.now in
    rw c.about_end.ensures
    (over-end m true a.address c.within-end.result c.within-end.ensures (λ i. omega (arith, c.shared_slice_known-2-1.given i)) c.if-end-at.true
    ∙ ap (λ (t : Bool). eight_at m t a.address) (sym c.if-tag.true))

pub about_end-requires-then-end-at-2 : goal.about_end-requires-then-end-at-2
about_end-requires-then-end-at-2 c =
    let h = over-tests (c.args.address % 1048576) c.within-end-else-tag.result c.if-end-at-2.true in
    (c.within-end-else-tag.ensures, h.0, h.1, h.2)

pub returns-then-end-at-2 : goal.returns-then-end-at-2
unfolding space_of limit_of index_of beyond_in
returns-then-end-at-2 c =
    let a = c.args in
    let m = buffers a.sys.now a.io.now in
    rw c.about_end-then-end-at-2.ensures
    (over-end m false a.address c.within-end-else-tag.result c.within-end-else-tag.ensures (λ i. omega (arith, c.shared_slice_known-1.given i)) c.if-end-at-2.true
    ∙ ap (λ (t : Bool). eight_at m t a.address) (sym c.if-tag.false))

pub returns : goal.returns
unfolding eight_at
returns c =
    let a = c.args in
    rw (c.four_singly-high.ensures, c.sum20.ensures, c.four_singly-low.ensures, four-sum (buffers a.sys.now a.io.now) a.tag a.address 4)
