-- `panel::rows::row` meets its contract. The loop's invariant: the rest of the row from here is the row from where quiet steps ended.
-- Assumes nothing.
use Prim.Native.Nat.{ℕ, ◌+◌, ◌-◌}
use mathlib.Core.Path.{◌≡◌, refl, sym, ap, ◌∙◌}
use native.Mathlib.Omega.{arith}
use Rattle.ground_rules.specs.Buffers.{Buffers, buffers}
use Rattle.ground_rules.specs.Psw.{transferring}
use Rattle.ground_rules.specs.declared.Channel.{Channel}
use Rattle.transfer_rules.specs.Ends.{ended_by}
use Rattle.panel.specs.Bursts.{BurstLeft, burst, burst_from, moves, transfers_on, carried_as}
use Rattle.panel.proofs.BurstLaws.{burst-limit}
use Rattle.panel.proofs.RowLaws.{carried-psw, row-stops, row_ends, row_goes}
use Rattle.panel.proofs.QuietLaws.{row-begins}
use Rattle.panel.proofs.rows.row.Goals as goal

-- one step less is left
again : (n : Channel) (m : Buffers) (stop done : ℕ) (x : BurstLeft) → burst_from moves transfers_on (stop - done - 1) n m (done + 1) ≡ x → burst_from moves transfers_on (stop - (done + 1)) n m (done + 1) ≡ x
again n m stop done x e = let less : stop - (done + 1) ≡ stop - done - 1 = omega arith in ap (λ (k : ℕ). burst_from moves transfers_on k n m (done + 1)) less ∙ e

pub quiet-b-requires : goal.quiet-b-requires
quiet-b-requires c = (c.requires.0, refl, c.requires.1)

pub loop-done-init : goal.loop-done-init
loop-done-init c = (c.quiet-b.ensures.0, refl, refl, refl)

pub returns-in-Err : goal.returns-in-Err
returns-in-Err c =
    let l = c.loop-done in
    let a = c.args in
    rw c.stood-in-Err.ensures
    (row-stops (carried_as a.c l.p) c.stood.result c.comes_to.result (buffers l.sys l.io) _ c.stood.ensures c.comes_to.ensures.left l.done (a.stop - l.done) (omega (arith, c.loop-done-test.true)) _ c.in-Err.is
    ∙ l.invariant.3
    ∙ row-begins a.c c.quiet-b.result _ _ a.from a.stop c.quiet-b.ensures)

pub overflow_add-done : goal.overflow_add-done
overflow_add-done c = omega (arith, c.loop-done-test.true, c.ranges.stop.fits)

pub returns-then-code-ne0 : goal.returns-then-code-ne0
returns-then-code-ne0 c =
    let l = c.loop-done in
    let a = c.args in
    ap (λ (x : Channel). burst 0 (l.done + 1) x (buffers c.comes_to.new.sys c.comes_to.new.io)) (c.ended.ensures ∙ ap (ended_by c.stood-then-code-ne0.result) c.end_code-code.ensures)
    ∙ row_ends (carried_as a.c l.p) c.stood.result c.comes_to.result (buffers l.sys l.io) _ c.stood.ensures c.comes_to.ensures.left l.done (a.stop - l.done) (omega (arith, c.loop-done-test.true)) c.in-Ok.moved c.in-Ok.is
    (λ z. c.if-code-ne0.true (c.end_code-code.ensures ∙ z)) c.stood-then-code-ne0.result (c.stood-then-code-ne0.ensures ∙ c.next-p.ensures)
    ∙ l.invariant.3
    ∙ row-begins a.c c.quiet-b.result _ _ a.from a.stop c.quiet-b.ensures

pub loop-done-smaller : goal.loop-done-smaller
loop-done-smaller c = omega (arith, c.loop-done-test.true)

pub loop-done-preserved : goal.loop-done-preserved
loop-done-preserved c =
    let l = c.loop-done in
    let a = c.args in
    let m = c.comes_to in (
      omega (arith, c.loop-done-test.true),
      m.auto.sys ∙ l.invariant.1,
      m.auto.io ∙ l.invariant.2,
      again (carried_as a.c c.next-p.result) _ a.stop l.done _
          (row_goes (carried_as a.c l.p) c.stood.result m.result (buffers l.sys l.io) _ c.stood.ensures m.ensures.left l.done (a.stop - l.done) (omega (arith, c.loop-done-test.true)) c.in-Ok.moved c.in-Ok.is
          (sym c.end_code-code.ensures ∙ c.if-code-ne0.false) (ap transferring (carried-psw a.c l.p) ∙ c.requires.1) (carried_as a.c c.next-p.result) c.next-p.ensures)
          ∙ l.invariant.3,
    )

pub returns : goal.returns
returns c =
    let l = c.loop-done in
    let a = c.args in
    rw c.stood-2.ensures
    (sym (burst-limit moves transfers_on (carried_as a.c l.p) (buffers l.sys l.io) l.done (a.stop - l.done) (omega (arith, c.loop-done-test.false)))
    ∙ l.invariant.3
    ∙ row-begins a.c c.quiet-b.result _ _ a.from a.stop c.quiet-b.ensures)
