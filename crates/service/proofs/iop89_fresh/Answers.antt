-- `service::iop89_fresh` meets its contract.
-- Assumes nothing.
use Rattle.state_rules.proofs.CallLaws.{fresh-short, fresh-made}
use Rattle.service.proofs.iop89_fresh.Goals as goal

pub returns-then-state-ne104 : goal.returns-then-state-ne104
returns-then-state-ne104 c =
    let both = fresh-short c.args.state.now c.args.cp c.if-state-ne104.true in
    rw c.number.ensures (record { left = both.0; whole = both.1 })

pub returns : goal.returns
returns c =
    let both = fresh-made c.args.state.now c.args.cp c.fresh-a.result c.if-state-ne104.false c.fresh-a.ensures c.put_state.ensures.whole in
    rw (c.answer.ensures, c.put_state.ensures.put) (record { left = both.0; whole = both.1 })
