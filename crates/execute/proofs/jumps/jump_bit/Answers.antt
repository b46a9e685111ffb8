-- `execute::jumps::jump_bit` meets its contract.
-- Assumes nothing.
use Rattle.execute.proofs.JumpWorks.{works-jump-bit}
use Rattle.execute.proofs.jumps.jump_bit.Goals as goal

pub returns : goal.returns
returns c =
    let a = c.args in
    λ busy m ch. rw (c.jump_byte.ensures, c.agrees-taken.ensures, c.bit.ensures) (works-jump-bit a.f m ch a.set a.bit a.o a.two busy)
