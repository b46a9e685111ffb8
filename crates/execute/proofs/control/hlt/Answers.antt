-- `execute::control::hlt` meets its contract.
-- Assumes nothing.
use Rattle.execute.proofs.ControlWorks.{works-hlt}
use Rattle.execute.proofs.control.hlt.Goals as goal

pub returns : goal.returns
returns c =
    let a = c.args in
    λ m ch. rw (c.past.ensures, c.stopped_psw.ensures) (works-hlt a.f m ch a.busy)
