-- `schedule_calls::iop89_schedule` meets its contract. The loop's invariant is `Ran`: what stands after the rows run so far.
-- Assumes nothing.
use Rattle.std.proofs.Common.{arith, rules, sym}
use Rattle.ground_rules.specs.Buffers.{buffers}
use Rattle.state_rules.proofs.ForthLaws.{bytes_back}
use Rattle.schedule_calls.specs.Turns.{Standing, standing}
use Rattle.schedule_calls.proofs.RunLaws.{refusal-number, ran_start, ran-next, row_known, ran-end, ran_none}
use Rattle.schedule_calls.proofs.iop89_schedule.Goals as goal

pub returns-in-Err : goal.returns-in-Err
returns-in-Err c =
    let a = c.args in
    let x : Standing = standing a.state.now (buffers a.sys.now a.io.now) a.report.now in
    rw (c.clear.ensures, c.number.ensures)
    (ran_none x a.rows.now (bytes_back _ (λ i. search rules)) _ c.in-Err.ensures (refusal-number _))

pub loop-row-init : goal.loop-row-init
loop-row-init c =
    let a = c.args in
    let x : Standing = standing a.state.now (buffers a.sys.now a.io.now) a.report.now in
    rw c.clear.ensures (ran_start x a.rows.now (bytes_back _ (λ i. search rules)) (sym c.in_default.ensures))

pub turn-requires-clause-known : goal.turn-requires-clause-known
turn-requires-clause-known c =
    let a = c.args in
    let x : Standing = standing a.state.now (buffers a.sys.now a.io.now) a.report.now in
    row_known x a.rows.now (bytes_back _ (λ i. search rules)) c.loop-row.row-index (sym c.in_default.ensures) (omega arith)

pub loop-row-preserved : goal.loop-row-preserved
loop-row-preserved c =
    let a = c.args in
    let x : Standing = standing a.state.now (buffers a.sys.now a.io.now) a.report.now in
    ran-next x a.rows.now (bytes_back _ (λ i. search rules)) c.loop-row.row-index _ _ (omega arith) (omega arith) c.loop-row.invariant c.turn.ensures

pub returns : goal.returns
returns c =
    let a = c.args in
    let x : Standing = standing a.state.now (buffers a.sys.now a.io.now) a.report.now in
    ran-end x a.rows.now (bytes_back _ (λ i. search rules)) c.loop-row.row-index _ (sym c.in_default.ensures) (omega arith) c.loop-row.invariant
