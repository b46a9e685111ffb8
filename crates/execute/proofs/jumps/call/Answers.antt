-- `execute::jumps::call` meets its contract.
-- Assumes nothing.
use Rattle.execute.proofs.JumpWorks.{works-call}
use Rattle.execute.proofs.jumps.call.Goals as goal

pub returns : goal.returns
returns c =
    let a = c.args in
    λ busy m ch. rw (c.past.ensures, c.stored_value.ensures, c.grown_ix.ensures, c.landing_by.ensures) (works-call a.f m ch a.o a.two busy)
