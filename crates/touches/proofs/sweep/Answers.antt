-- `touches::sweep` meets its contract.
-- Assumes nothing.
use Prim.Native.Nat.{ℕ}
use Rattle.ground_rules.specs.Buffers.{buffers}
use Rattle.touches.proofs.CallLaws.{sweep-refused, sweep-told}
use Rattle.touches.proofs.TaleLaws.{two-plain-told}
use Rattle.std.proofs.Common.{rules}
use Rattle.sweep_rules.specs.Sweep.{sweep_number}
use Rattle.touch_rules.specs.Touches.{pointed_place, told_by_sweep}
use Rattle.touches.specs.Tales.{Tale, tale, untold, foreseen, foreseen_at, foretold, told_next}
use Rattle.touches.specs.Tales.{plain_told}
use Rattle.ground_rules.proofs.RefusalLaws.{number-some}
use lib.Dec.{eqb}
use mathlib.Core.Bool.{true, false}
use mathlib.Core.Path.{◌≡◌, sym, ap, ◌∙◌}
use native.Mathlib.Omega.{arith}
use Rattle.touches.proofs.sweep.Goals as goal

pub returns-in-Err : goal.returns-in-Err
returns-in-Err c =
    let a = c.args in
    let m = buffers a.sys.now a.io.now in
    rw (c.number.ensures, c.in-Err.ensures)
    (sweep-refused a.s m a.channel a.lines a.places.now (sym (ap (λ (n : ℕ). eqb n 0) c.in-Err.ensures) ∙ number-some _))

pub one-requires-2 : goal.one-requires-2
unfolding told_next
one-requires-2 c = omega (arith, ap (λ (y : Tale). y.count) c.one.ensures.told, ap (λ (y : Tale). y.count) c.new-teller.ensures.told)

pub returns : goal.returns
returns c =
    let a = c.args in
    let m = buffers a.sys.now a.io.now in
    let room = a.places.now in
    let rest = simp (c.channel-c.ensures, c.is_second.ensures) at c.remainder_of-rest.ensures.0 in
    let from = pointed_place c.remainder_of-rest.result.from in
    let into = pointed_place c.remainder_of-rest.result.into in
    let told : tale c.one-2.new.self ≡ told_next true (plain_told true into) (told_next true (plain_told false from) (untold room))
    = c.one-2.ensures.told ∙ ap (told_next true (plain_told true into)) (c.one.ensures.told ∙ ap (told_next true (plain_told false from)) c.new-teller.ensures.told) in
    let whole : foreseen c.seen.result c.one-2.new.self.places.now ≡ foretold (sweep_number a.s m a.channel a.lines) (told_by_sweep a.s m a.channel a.lines) room
    = rw c.seen.ensures
    (ap (foreseen_at 0) told ∙ two-plain-told from into room ∙ rw rest (sweep-told a.s m a.channel a.lines room (sym c.in_default.ensures))) in
    search rules
