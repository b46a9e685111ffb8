-- `notation::lines::Line::push` meets its contract. The loop's invariant: what stands written and what is left are all.
-- Assumes nothing.
use mathlib.Core.Path.{refl}
use native.Mathlib.Omega.{arith}
use Rattle.notation.specs.Writing.{held_in}
use Rattle.notation.proofs.PieceLaws.{left-next, left_end}
use Rattle.notation.proofs.lines.Line.push.Goals as goal

pub loop-rest-init : goal.loop-rest-init
unfolding held_in
loop-rest-init c = record { count = 8; small = omega arith; size = c.requires.size; index = refl; chars = refl }

pub bounds-self-len : goal.bounds-self-len
bounds-self-len c =
    let l = c.loop-rest in
    (left-next l.self.chars l.rest l.len _ _ (λ e. c.loop-rest-test.true e) c.requires.room l.invariant).0

pub loop-rest-preserved : goal.loop-rest-preserved
loop-rest-preserved c =
    let l = c.loop-rest in
    (left-next l.self.chars l.rest l.len _ _ (λ e. c.loop-rest-test.true e) c.requires.room l.invariant).1

pub returns : goal.returns
returns c =
    let l = c.loop-rest in
    let e = left_end l.self.chars l.rest l.len _ _ c.loop-rest-test.false l.invariant in
    record { size = l.invariant.size; index = e.0; chars = e.1 }
