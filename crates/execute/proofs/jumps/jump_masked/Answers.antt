-- `execute::jumps::jump_masked` meets its contract.
-- Assumes nothing.
use Rattle.execute.proofs.JumpWorks.{works-jump-masked}
use Rattle.execute.proofs.jumps.jump_masked.Goals as goal

pub returns : goal.returns
returns c =
    let a = c.args in
    λ busy m ch. rw (c.jump_byte.ensures, c.agrees-taken.ensures, c.matches.ensures) (works-jump-masked a.f m ch a.equal a.o a.two busy)
