-- `panel::bursts::rounds` meets its contract. The loop's invariant: the rest of the channel's run from here is its whole run from the start.
-- Assumes nothing.
use Prim.Native.Nat.{◌-◌}
use mathlib.Core.Path.{refl, sym, ap, ◌∙◌}
use native.Mathlib.Nat.{sub-zero}
use native.Mathlib.Omega.{arith}
use Rattle.ground_rules.specs.Buffers.{buffers}
use Rattle.std.proofs.Common.{Option}
use Rattle.ground_rules.proofs.RefusalLaws.{number-positive}
use Rattle.ground_rules.specs.declared.Refusal.{Refusal}
use Rattle.run_rules.specs.Run.{ran}
use Rattle.panel.specs.Bursts.{burst, alone_step, always, alone_from, ran_by, alone_run}
use Rattle.run_rules.specs.Run.{stop_number}
use Rattle.panel.proofs.BurstLaws.{burst-limit}
use Rattle.panel.proofs.AloneLaws.{rest-stopped, rest-going}
use Rattle.panel.proofs.bursts.rounds.Goals as goal

pub loop-done-init : goal.loop-done-init
loop-done-init c = let a = c.args in (omega arith, refl, refl, ap (λ n. ran_by (alone_from a.busy a.lines a.second n a.c (buffers a.sys.now a.io.now) 0)) (sub-zero a.limit))

pub turn-r-requires : goal.turn-r-requires
turn-r-requires c = c.loop-done-test.true

pub overflow_cast-result : goal.overflow_cast-result
overflow_cast-result c = omega (arith, c.turn-r.ensures.most, c.ranges.limit.fits)

pub returns-in-Some : goal.returns-in-Some
unfolding alone_run
returns-in-Some c =
    let a = c.args in
    let r = c.turn-r.result in
    ap (λ (x : Option Refusal). ran (stop_number x) r.steps (buffers c.turn-r.new.sys c.turn-r.new.io)) (sym c.in-Some.is)
    ∙ sym (rest-stopped (burst (stop_number r.stopped) r.steps r.channel _) a.busy a.lines a.second a.limit (λ z. number-positive _ (sym (ap stop_number c.in-Some.is) ∙ z))) ∙ c.turn-r.ensures.rest ∙ c.loop-done.invariant.3

pub loop-done-smaller : goal.loop-done-smaller
loop-done-smaller c = omega (arith, c.turn-r.ensures.further (ap stop_number c.in_default.is), c.turn-r.ensures.most)

pub loop-done-preserved : goal.loop-done-preserved
loop-done-preserved c =
    let a = c.args in
    let r = c.turn-r.result in
    let l = c.loop-done in
    let e = c.turn-r.ensures in (
      e.most,
      c.turn-r.auto.sys ∙ l.invariant.1,
      c.turn-r.auto.io ∙ l.invariant.2,
      sym (rest-going (burst (stop_number r.stopped) r.steps r.channel _) a.busy a.lines a.second a.limit (ap stop_number c.in_default.is)) ∙ e.rest ∙ l.invariant.3,
    )

pub overflow_cast-result-2 : goal.overflow_cast-result-2
overflow_cast-result-2 c = omega (arith, c.loop-done.invariant.0, c.ranges.limit.fits)

pub returns : goal.returns
unfolding alone_run
returns c =
    let l = c.loop-done in
    let a = c.args in
    sym (ap ran_by (burst-limit (alone_step a.busy a.lines a.second) always l.mine (buffers l.sys l.io) l.done (a.limit - l.done) (omega (arith, c.loop-done-test.false)))) ∙ l.invariant.3
