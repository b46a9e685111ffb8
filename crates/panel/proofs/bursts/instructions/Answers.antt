-- `panel::bursts/instructions` meets its contract. The loop's invariant: the rest of the burst from here is the whole burst from the start.
-- Assumes nothing.
use Prim.Native.Nat.{ℕ, ◌+◌, ◌-◌}
use borrow.Author.Tests.{not-true, not-false}
use mathlib.Core.Bool.{Bool, not, ◌&&◌}
use mathlib.Core.Path.{◌≡◌, refl, sym, ap, ap₂, ◌∙◌}
use native.Mathlib.Omega.{arith}
use Rattle.instruction_rules.specs.Execute.{Executed, execute_of}
use Rattle.ground_rules.proofs.RefusalLaws.{number-positive}
use Rattle.ground_rules.specs.Updates.{holding}
use Rattle.ground_rules.specs.declared.Channel.{Channel}
use Rattle.ground_rules.specs.Buffers.{Buffers, buffers}
use Rattle.panel.specs.Bursts.{burst, burst_from, executes, executes_on}
use Rattle.panel.proofs.BurstLaws.{burst-stops, burst-ends, burst-goes, burst-limit}
use Rattle.panel.proofs.bursts.instructions.Goals as goal

-- the burst of a channel that holds what it held is its own
as_it_was : (busy : ℕ) (c r : Channel) (m : Buffers) (from stop : ℕ) → r ≡ holding c c.held → burst_from (executes busy) executes_on (stop - from) r m from ≡ burst_from (executes busy) executes_on (stop - from) c m from
as_it_was busy c r m from stop e = ap (λ (x : Channel). burst_from (executes busy) executes_on (stop - from) x m from) e

pub loop-done-init : goal.loop-done-init
loop-done-init c = (c.requires, refl, refl, refl)

pub returns-in-Err : goal.returns-in-Err
returns-in-Err c =
    let l = c.loop-done in
    let a = c.args in
    let m = buffers l.sys l.io in
    let e = c.in-Err.ensures.left in
    ap (λ (o : Executed). burst o.number l.done l.mine o.memory) e
    ∙ sym
    (burst-stops (executes a.busy) executes_on l.mine m l.done (a.stop - l.done) (omega (arith, c.loop-done-test.true)) (λ z. number-positive _ (ap (λ (o : Executed). o.number) e ∙ z)))
    ∙ l.invariant.3
    ∙ as_it_was a.busy a.c c.holds-mine.result (buffers a.sys.now a.io.now) a.from a.stop c.holds-mine.ensures

pub overflow_add-done : goal.overflow_add-done
overflow_add-done c = omega (arith, c.loop-done-test.true, c.ranges.stop.fits)

pub returns-then-not-is_running-transferring : goal.returns-then-not-is_running-transferring
returns-then-not-is_running-transferring c =
    let l = c.loop-done in
    let a = c.args in
    let m = buffers l.sys l.io in
    let e = c.in-Ok.ensures.left in
    ap (λ (o : Executed). burst 0 (l.done + 1) o.channel o.memory) e
    ∙ sym
    (burst-ends (executes a.busy) executes_on l.mine m l.done (a.stop - l.done) (omega (arith, c.loop-done-test.true)) (sym (ap (λ (o : Executed). o.number) e))
    (ap (λ (o : Executed). executes_on l.mine o.channel) (sym e) ∙ sym (ap₂ (λ (x y : Bool). x && not y) c.is_running.ensures c.transferring.ensures) ∙ not-true _ c.if-not-is_running-transferring.true-raw))
    ∙ l.invariant.3
    ∙ as_it_was a.busy a.c c.holds-mine.result (buffers a.sys.now a.io.now) a.from a.stop c.holds-mine.ensures

pub loop-done-smaller : goal.loop-done-smaller
loop-done-smaller c = omega (arith, c.loop-done-test.true)

pub loop-done-preserved : goal.loop-done-preserved
loop-done-preserved c =
    let l = c.loop-done in
    let a = c.args in
    let m = buffers l.sys l.io in
    let e = c.in-Ok.ensures.left in
    let left : a.stop - (l.done + 1) ≡ a.stop - l.done - 1 = omega arith in (
      omega (arith, c.loop-done-test.true),
      c.execute.auto.sys ∙ l.invariant.1,
      c.execute.auto.io ∙ l.invariant.2,
      ap (λ (o : Executed). burst_from (executes a.busy) executes_on (a.stop - (l.done + 1)) o.channel o.memory (l.done + 1)) e
          ∙ ap (λ (n : ℕ). burst_from (executes a.busy) executes_on n (execute_of l.mine a.busy m).channel (execute_of l.mine a.busy m).memory (l.done + 1)) left
          ∙ sym
          (burst-goes (executes a.busy) executes_on l.mine m l.done (a.stop - l.done) (omega (arith, c.loop-done-test.true)) (sym (ap (λ (o : Executed). o.number) e))
          (ap (λ (o : Executed). executes_on l.mine o.channel) (sym e) ∙ sym (ap₂ (λ (x y : Bool). x && not y) c.is_running.ensures c.transferring.ensures) ∙ not-false _ c.if-not-is_running-transferring.false-raw))
          ∙ l.invariant.3,
    )

pub returns : goal.returns
returns c =
    let l = c.loop-done in
    let a = c.args in
    sym (burst-limit (executes a.busy) executes_on l.mine (buffers l.sys l.io) l.done (a.stop - l.done) (omega (arith, c.loop-done-test.false))) ∙ l.invariant.3
    ∙ as_it_was a.busy a.c c.holds-mine.result (buffers a.sys.now a.io.now) a.from a.stop c.holds-mine.ensures
