-- `execute::jumps::tsl` meets its contract.
-- Assumes nothing.
use Rattle.execute.proofs.JumpWorks.{works-tsl-stored, works-tsl-led}
use Rattle.execute.proofs.jumps.tsl.Goals as goal

pub returns-then-f-eq0 : goal.returns-then-f-eq0
returns-then-f-eq0 c =
    let a = c.args in
    λ busy m ch. rw (c.stores.ensures, c.grown_ix-ix.ensures) (works-tsl-stored a.f m ch a.o busy c.if-f-eq0.true)

pub returns : goal.returns
returns c =
    let a = c.args in
    λ busy m ch. rw (c.past.ensures, c.landing_by.ensures, c.grown_ix-ix.ensures) (works-tsl-led a.f m ch a.o busy c.if-f-eq0.false)
