-- `execute::control::wid` meets its contract.
-- Assumes nothing.
use Rattle.execute.proofs.ControlWorks.{works-wid}
use Rattle.execute.proofs.control.wid.Goals as goal

pub returns : goal.returns
returns c =
    let a = c.args in
    λ busy m ch. rw (c.past.ensures, c.with.ensures, c.with-first.ensures) (works-wid a.f m ch a.source a.destination busy)
