-- `touches::orders::order` meets its contract.
-- Assumes nothing.
use Prim.Native.Nat.{ℕ}
use Rattle.attention_rules.specs.Commands.{command_number}
use Rattle.attention_rules.specs.Touched.{read_by, stored_by}
use Rattle.std.proofs.Common.{rules}
use Rattle.attention_rules.specs.Attention.{order_number}
use Rattle.touch_rules.specs.Touches.{told_by_order}
use Rattle.ground_rules.specs.Buffers.{Buffers, buffers}
use Rattle.ground_rules.specs.Places.{span}
use Rattle.touches.proofs.CallLaws.{order-whole}
use Rattle.touches.proofs.TaleLaws.{told-from, two-beyond, two-judged, two-done}
use Rattle.touches.specs.Tales.{Tale, tale, untold, told_on, all_as, foreseen, foreseen_at, foretold, ended_at}
use Rattle.ground_rules.proofs.RefusalLaws.{number-some}
use Rattle.ground_rules.specs.Refusals.{number_of}
use lib.Dec.{eqb}
use mathlib.Core.Bool.{true, false}
use mathlib.Core.Path.{◌≡◌, refl, sym, ap, ap₂, ◌∙◌}
use Rattle.touches.proofs.orders.order.Goals as goal

pub returns-then-teller : goal.returns-then-teller
returns-then-teller c =
    let a = c.args in
    let m = buffers a.sys.now a.io.now in
    let o = a.o in
    let room = a.places.now in
    let rs = read_by o.command o.block o.pb in
    let ss = stored_by o.command o.block o.pb in
    let told : tale c.span.new.self ≡ told_on m (all_as false (span false o.block 1)) (untold room)
    = told-from m _ _ c.new-teller.result c.span.new.self c.new-teller.ensures.lent c.new-teller.ensures.told (simp c.system.ensures at c.span.ensures.told) in
    let whole : foreseen c.seen.result c.span.new.self.places.now ≡ foretold (order_number m o a.mode) (told_by_order m o a.mode) room
    = rw c.seen.ensures
    (ap (foreseen_at 2) told
    ∙ two-beyond m (span false o.block 1) rs ss (command_number o.command a.mode) (untold room) refl (sym (ap (λ (y : Tale). y.beyond) told) ∙ c.if-teller.true)
    ∙ order-whole m o a.mode room) in
    search rules

pub returns-in-Err : goal.returns-in-Err
returns-in-Err c =
    let a = c.args in
    let m = buffers a.sys.now a.io.now in
    let o = a.o in
    let room = a.places.now in
    let rs = read_by o.command o.block o.pb in
    let ss = stored_by o.command o.block o.pb in
    let told : tale c.span.new.self ≡ told_on m (all_as false (span false o.block 1)) (untold room)
    = told-from m _ _ c.new-teller.result c.span.new.self c.new-teller.ensures.lent c.new-teller.ensures.told (simp c.system.ensures at c.span.ensures.told) in
    let whole : foreseen c.seen-in-Err.result c.span.new.self.places.now ≡ foretold (order_number m o a.mode) (told_by_order m o a.mode) room
    = rw (c.seen-in-Err.ensures, c.number.ensures)
    (ap (foreseen_at (number_of c.in-Err.refusal)) told
    ∙ ap (λ (n : ℕ). foreseen_at n (told_on m (all_as false (span false o.block 1)) (untold room))) c.in-Err.ensures
    ∙ two-judged m (span false o.block 1) rs ss (command_number o.command a.mode) (untold room) refl (sym (ap (λ (y : Tale). y.beyond) told) ∙ c.if-teller.false)
    (sym (ap (λ (n : ℕ). eqb n 0) c.in-Err.ensures) ∙ number-some _)
    ∙ order-whole m o a.mode room) in
    search rules

pub returns : goal.returns
returns c =
    let a = c.args in
    let m = buffers a.sys.now a.io.now in
    let o = a.o in
    let room = a.places.now in
    let rs = read_by o.command o.block o.pb in
    let ss = stored_by o.command o.block o.pb in
    let told : tale c.span.new.self ≡ told_on m (all_as false (span false o.block 1)) (untold room)
    = told-from m _ _ c.new-teller.result c.span.new.self c.new-teller.ensures.lent c.new-teller.ensures.told (simp c.system.ensures at c.span.ensures.told) in
    let whole : foreseen c.ended.result c.others.new.teller.places.now ≡ foretold (order_number m o a.mode) (told_by_order m o a.mode) room
    = c.ended.ensures
    ∙ ap ended_at (c.others.ensures.told ∙ ap₂ (λ (n : Buffers) (y : Tale). told_on n (all_as true ss) (told_on n (all_as false rs) y)) (c.span.ensures.lent ∙ c.new-teller.ensures.lent) told)
    ∙ two-done m (span false o.block 1) rs ss (command_number o.command a.mode) (untold room) refl (sym (ap (λ (y : Tale). y.beyond) told) ∙ c.if-teller.false)
    (sym (ap (λ (n : ℕ). eqb n 0) c.in_default.ensures))
    ∙ order-whole m o a.mode room in
    search rules
