-- `execute::jumps::jump_register` meets its contract.
-- Assumes nothing.
use Rattle.execute.proofs.JumpWorks.{works-jump-register}
use Rattle.execute.proofs.jumps.jump_register.Goals as goal

pub returns : goal.returns
returns c =
    let a = c.args in
    λ busy m ch. rw (c.past.ensures, c.led_by.ensures, c.agrees-taken.ensures) (works-jump-register a.f m ch a.zero a.rrr a.two busy)
