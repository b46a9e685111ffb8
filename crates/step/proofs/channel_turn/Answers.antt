-- `step::channel_turn` meets its contract.
-- Assumes nothing.
use Prim.Native.Nat.{ℕ}
use mathlib.Core.Path.{sym, ap, ◌∙◌}
use Rattle.instruction_rules.specs.Execute.{touched_by_instruction, Executed, execute_of, execute_count}
use Rattle.ground_rules.specs.Outcomes.{counted}
use Rattle.ground_rules.specs.States.{block_of, busy_in}
use Rattle.ground_rules.specs.Buffers.{buffers}
use Rattle.transfer_rules.specs.Steps.{touched_by_transfer, transfer_count}
use Rattle.transfer_rules.specs.Steps as Steps
use Rattle.turn_rules.specs.declared.Kind.TheVariants.{Instruction, Transfer}
use Rattle.step.specs.Turns.{turn_of, turn_touched}
use Rattle.step.proofs.channel_turn.Goals as goal

pub returns-in-Err : goal.returns-in-Err
unfolding turn_of turn_touched transfer_count
returns-in-Err c =
    let a = c.args in
    let m = buffers a.sys.now a.io.now in
    let flag = sym c.transferring.ensures ∙ c.if-transferring.true in
    let e = c.in-Err.ensures in
    record {
      left = rw flag (ap (λ (x : Steps.Transfer). record { number = x.number; channel = x.channel; memory = x.memory; kind = Transfer }) e.left);
      count = rw flag (e.count ∙ ap (λ (x : Steps.Transfer). counted x.number (touched_by_transfer a.c m)) (sym e.left));
    }

pub returns-in-Ok : goal.returns-in-Ok
unfolding turn_of turn_touched transfer_count
returns-in-Ok c =
    let a = c.args in
    let m = buffers a.sys.now a.io.now in
    let flag = sym c.transferring.ensures ∙ c.if-transferring.true in
    let e = c.in-Ok.ensures in
    rw c.turned.ensures (record {
      left = rw flag (ap (λ (x : Steps.Transfer). record { number = x.number; channel = x.channel; memory = x.memory; kind = Transfer }) e.left);
      count = rw flag (e.count ∙ ap (λ (x : Steps.Transfer). counted x.number (touched_by_transfer a.c m)) (sym e.left));
    })

pub returns-in-Err-execute : goal.returns-in-Err-execute
unfolding turn_of turn_touched execute_count
returns-in-Err-execute c =
    let a = c.args in
    let m = buffers a.sys.now a.io.now in
    let flag = sym c.transferring.ensures ∙ c.if-transferring.false in
    let at = c.busy-busy.ensures ∙ ap busy_in c.block.ensures in
    let d = c.in-Err-execute.ensures in
    let e = d.left ∙ ap (λ (y : ℕ). execute_of a.c y m) at in
    record {
      left = rw flag (ap (λ (x : Executed). record { number = x.number; channel = x.channel; memory = x.memory; kind = Instruction }) e);
      count = rw flag (d.count ∙ ap (λ (y : ℕ). execute_count a.c y m) at ∙ ap (λ (x : Executed). counted x.number (touched_by_instruction m a.c (busy_in (block_of a.s a.second)))) (sym e));
    }

pub returns-in-Ok-execute : goal.returns-in-Ok-execute
unfolding turn_of turn_touched execute_count
returns-in-Ok-execute c =
    let a = c.args in
    let m = buffers a.sys.now a.io.now in
    let flag = sym c.transferring.ensures ∙ c.if-transferring.false in
    let at = c.busy-busy.ensures ∙ ap busy_in c.block.ensures in
    let d = c.in-Ok-execute.ensures in
    let e = d.left ∙ ap (λ (y : ℕ). execute_of a.c y m) at in
    rw c.turned-in-Ok-execute.ensures (record {
      left = rw flag (ap (λ (x : Executed). record { number = x.number; channel = x.channel; memory = x.memory; kind = Instruction }) e);
      count = rw flag (d.count ∙ ap (λ (y : ℕ). execute_count a.c y m) at ∙ ap (λ (x : Executed). counted x.number (touched_by_instruction m a.c (busy_in (block_of a.s a.second)))) (sym e));
    })
