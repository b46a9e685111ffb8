-- `touches::turn` meets its contract.
-- Assumes nothing.
use Rattle.ground_rules.specs.Buffers.{buffers}
use Rattle.touches.proofs.CallLaws.{turn-transfer, turn-instruction}
use Rattle.touches.specs.Tales.{foreseen}
use mathlib.Core.Path.{sym, ◌∙◌}
use Rattle.touches.proofs.turn.Goals as goal

pub returns-then-transferring : goal.returns-then-transferring
returns-then-transferring c = λ e.
    let a = c.args in
    let m = buffers a.sys.now a.io.now in
    rw c.by.ensures
    (turn-transfer a.s m a.second a.places.now (simp e at (sym c.transferring.ensures ∙ c.if-transferring.true))
    (foreseen c.transfer.result c.transfer.new.places) (simp e at c.transfer.ensures))

pub returns : goal.returns
returns c = λ e.
    let a = c.args in
    let m = buffers a.sys.now a.io.now in
    rw c.by-2.ensures
    (turn-instruction a.s m a.second a.places.now (simp e at (sym c.transferring.ensures ∙ c.if-transferring.false))
    (foreseen c.instruction.result c.instruction.new.places) (simp (e, c.busy-busy.ensures, c.block.ensures) at c.instruction.ensures))
