-- `sweep::copy` meets its contract: each way is one loop, by the tags of both pointers.
-- Assumes nothing.
use Prim.Native.Nat.{ℕ}
use mathlib.Core.Bool.{true, false}
use mathlib.Core.List.{List}
use mathlib.Core.Path.{sym, ap, ◌∙◌}
use native.Mathlib.Omega.{arith}
use Rattle.ground_rules.specs.Buffers.{buffers, space_of}
use Rattle.sweep.proofs.SpaceLaws.{replaced, range-in, copied-within, copied-across}
use Rattle.sweep.proofs.copy.Goals as goal

pub shift-requires : goal.shift-requires
unfolding space_of
shift-requires c =
    let a = c.args in
    let m = buffers a.sys.now a.io.now in
    let pre = c.requires in (
      omega (arith, range-in m a.p a.n true c.if-p.true pre.1, c.place-from.ensures),
      omega (arith, range-in m a.q a.n true c.if-q.true pre.2, c.place-into.ensures),
    )

pub lay-requires : goal.lay-requires
unfolding space_of
lay-requires c =
    let a = c.args in
    let m = buffers a.sys.now a.io.now in
    let pre = c.requires in (
      omega (arith, range-in m a.p a.n true c.if-p.true pre.1, c.place-from.ensures),
      omega (arith, range-in m a.q a.n false c.if-q.false pre.2, c.place-into.ensures),
    )

pub lay-requires-then-q-2 : goal.lay-requires-then-q-2
unfolding space_of
lay-requires-then-q-2 c =
    let a = c.args in
    let m = buffers a.sys.now a.io.now in
    let pre = c.requires in (
      omega (arith, range-in m a.p a.n false c.if-p.false pre.1, c.place-from.ensures),
      omega (arith, range-in m a.q a.n true c.if-q-2.true pre.2, c.place-into.ensures),
    )

pub shift-requires-else-q-2 : goal.shift-requires-else-q-2
unfolding space_of
shift-requires-else-q-2 c =
    let a = c.args in
    let m = buffers a.sys.now a.io.now in
    let pre = c.requires in (
      omega (arith, range-in m a.p a.n false c.if-p.false pre.1, c.place-from.ensures),
      omega (arith, range-in m a.q a.n false c.if-q-2.false pre.2, c.place-into.ensures),
    )

pub returns-then-q : goal.returns-then-q
unfolding replaced space_of
returns-then-q c =
    let a = c.args in
    let m = buffers a.sys.now a.io.now in
    let pre = c.requires in
    ap (λ (l : List ℕ). buffers a.sys.now l) c.shift.ensures
    ∙ rw (c.place-from.ensures, c.place-into.ensures)
    (sym (copied-within m a.p a.q a.n pre.0 pre.1 pre.2 true c.if-p.true c.if-q.true))

pub returns-else-q : goal.returns-else-q
unfolding replaced space_of
returns-else-q c =
    let a = c.args in
    let m = buffers a.sys.now a.io.now in
    let pre = c.requires in
    ap (λ (l : List ℕ). buffers l a.io.now) c.lay.ensures
    ∙ rw (c.place-from.ensures, c.place-into.ensures)
    (sym (copied-across m a.p a.q a.n pre.0 pre.1 pre.2 true c.if-p.true c.if-q.false))

pub returns-then-q-2 : goal.returns-then-q-2
unfolding replaced space_of
returns-then-q-2 c =
    let a = c.args in
    let m = buffers a.sys.now a.io.now in
    let pre = c.requires in
    ap (λ (l : List ℕ). buffers a.sys.now l) c.lay-then-q-2.ensures
    ∙ rw (c.place-from.ensures, c.place-into.ensures)
    (sym (copied-across m a.p a.q a.n pre.0 pre.1 pre.2 false c.if-p.false c.if-q-2.true))

pub returns-else-q-2 : goal.returns-else-q-2
unfolding replaced space_of
returns-else-q-2 c =
    let a = c.args in
    let m = buffers a.sys.now a.io.now in
    let pre = c.requires in
    ap (λ (l : List ℕ). buffers l a.io.now) c.shift-else-q-2.ensures
    ∙ rw (c.place-from.ensures, c.place-into.ensures)
    (sym (copied-within m a.p a.q a.n pre.0 pre.1 pre.2 false c.if-p.false c.if-q-2.false))
