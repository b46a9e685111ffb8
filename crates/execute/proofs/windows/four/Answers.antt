-- `execute::windows::four` meets its contract.
-- Assumes nothing.
use Rattle.std.proofs.Common.{Bool, true, false, sym, ap, ◌∙◌}
use Rattle.ground_rules.specs.Buffers.{buffers, space_of, limit_of, index_of}
use Rattle.execute.specs.Bytes.{four_at}
use Rattle.execute.proofs.PieceLaws.{piece-in, four-piece}
use Rattle.execute.proofs.windows.four.Goals as goal

pub four_of-requires : goal.four_of-requires
unfolding space_of limit_of index_of
four_of-requires c =
    let a = c.args in
    piece-in (buffers a.sys.now a.io.now) true a.address 4 (rw c.within.ensures at c.if-at-within.true)

pub returns-then-at-within : goal.returns-then-at-within
unfolding space_of limit_of index_of
returns-then-at-within c =
    let a = c.args in
    let m = buffers a.sys.now a.io.now in
    c.four_of.ensures ∙ four-piece m true a.address (rw c.within.ensures at c.if-at-within.true) ∙ ap (λ (t : Bool). four_at m t a.address) (sym c.if-tag.true)

pub four_of-requires-then-at-within-2 : goal.four_of-requires-then-at-within-2
unfolding space_of limit_of index_of
four_of-requires-then-at-within-2 c =
    let a = c.args in
    piece-in (buffers a.sys.now a.io.now) false a.address 4 (rw c.within-else-tag.ensures at c.if-at-within-2.true)

pub returns-then-at-within-2 : goal.returns-then-at-within-2
unfolding space_of limit_of index_of
returns-then-at-within-2 c =
    let a = c.args in
    let m = buffers a.sys.now a.io.now in
    c.four_of-then-at-within-2.ensures ∙ four-piece m false a.address (rw c.within-else-tag.ensures at c.if-at-within-2.true) ∙ ap (λ (t : Bool). four_at m t a.address) (sym c.if-tag.false)
