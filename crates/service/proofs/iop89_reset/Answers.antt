-- `service::iop89_reset` meets its contract.
-- Assumes nothing.
use Rattle.state_rules.proofs.CallLaws.{reset-short, reset-made}
use Rattle.service.proofs.iop89_reset.Goals as goal

pub returns-then-state-ne104 : goal.returns-then-state-ne104
returns-then-state-ne104 c =
    let both = reset-short c.args.state.now c.if-state-ne104.true in
    rw c.number.ensures (record { left = both.0; whole = both.1 })

pub returns : goal.returns
returns c =
    let both = reset-made c.args.state.now c.reset.result c.if-state-ne104.false c.reset.ensures c.put_state.ensures.whole in
    rw (c.answer.ensures, c.put_state.ensures.put) (record { left = both.0; whole = both.1 })
