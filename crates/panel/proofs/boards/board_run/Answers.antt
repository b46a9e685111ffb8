-- `panel::boards::board_run` meets its contract.
-- Assumes nothing.
use Prim.Native.Nat.{ℕ}
use borrow.Author.Tests.{eq-eqb, ne_eqb}
use mathlib.Core.Path.{refl, sym, ap, ap₂, ◌∙◌}
use native.Mathlib.Nat.{mod-eq_of_lt}
use Rattle.attention_rules.proofs.PowerOutcomes.{power-accepted, power-lengths, control-small}
use Rattle.attention_rules.specs.Attention.{attention_of}
use Rattle.attention_rules.specs.Power.{board_of, found_state, power_up_of}
use Rattle.ground_rules.proofs.RefusalLaws.{number-positive}
use Rattle.ground_rules.specs.Outcomes.{Outcome}
use Rattle.ground_rules.specs.States.{reset_state, blank_state}
use Rattle.ground_rules.specs.declared.State.{State}
use Rattle.ground_rules.specs.Buffers.{buffers, within_limits}
use Rattle.turn_rules.proofs.SoundLaws.{limits-kept}
use Rattle.run_rules.proofs.BoardOutcomes.{accepted-power}
use Rattle.run_rules.proofs.RunLaws.{call-limit}
use Rattle.run_rules.specs.Run.{ran, attended_run, started_run, call_number}
use Rattle.run_rules.specs.Board.{powered_run, board_run_of}
use Rattle.panel.proofs.StartLaws.{call_kept}
use Rattle.panel.proofs.boards.board_run.Goals as goal

pub returns-in-Err : goal.returns-in-Err
unfolding board_run_of
returns-in-Err c =
    let a = c.args in
    let m = buffers a.sys.now a.io.now in
    let n = c.in-Err.ensures in
    rw c.refused.ensures (ap (λ (x : ℕ). ran x 0 m) n ∙ rw (ne_eqb (call_number m a.channel a.lines a.limit) 0 (λ z. number-positive _ (n ∙ z))))

pub returns-in-Err-power_up : goal.returns-in-Err-power_up
unfolding board_run_of powered_run started_run
returns-in-Err-power_up c =
    let a = c.args in
    let m = buffers a.sys.now a.io.now in
    let e = c.in-Err-power_up.ensures.left reset_state in
    rw c.refused-in-Err-power_up.ensures
    (ap (λ (o : Outcome). ran o.number 0 o.memory) e
    ∙ rw (eq-eqb (call_number m a.channel a.lines a.limit) 0 (sym c.in_default.ensures), ne_eqb (power_up_of reset_state m).number 0 (λ z. number-positive _ (ap (λ (o : Outcome). o.number) e ∙ z))))

pub start-requires : goal.start-requires
unfolding found_state
start-requires c =
    let a = c.args in
    let m = buffers a.sys.now a.io.now in
    let n = sym c.in_default.ensures in
    let e = c.in-Ok.ensures.left reset_state in
    let z = sym (ap (λ (o : Outcome). o.number) e) in (
      rw (ap (λ (o : Outcome). o.state.cp) (e ∙ power-accepted reset_state m z)) (control-small m),
      call_kept m _ a.channel a.lines _ (ap (λ (o : Outcome). within_limits o.memory) e ∙ limits-kept m (power_up_of reset_state m).memory (power-lengths reset_state m))
          ∙ ap (λ (k : ℕ). call_number m a.channel a.lines k) (mod-eq_of_lt (call-limit m a.channel a.lines a.limit n))
          ∙ n,
    )

pub returns-in-Ok : goal.returns-in-Ok
unfolding found_state board_of
returns-in-Ok c =
    let a = c.args in
    let m = buffers a.sys.now a.io.now in
    let n = sym c.in_default.ensures in
    let e = c.in-Ok.ensures.left reset_state in
    let z = sym (ap (λ (o : Outcome). o.number) e) in
    c.start.ensures (board_of m) refl
    ∙ ap₂ (λ (o : Outcome) (k : ℕ). attended_run (attention_of (blank_state o.state.cp (board_of m)) o.memory a.channel) a.lines k) (e ∙ power-accepted reset_state m z)
    (mod-eq_of_lt (call-limit m a.channel a.lines a.limit n))
    ∙ sym (accepted-power m a.channel a.lines a.limit n z)
