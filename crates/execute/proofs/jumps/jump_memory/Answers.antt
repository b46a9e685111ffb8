-- `execute::jumps::jump_memory` meets its contract.
-- Assumes nothing.
use Rattle.execute.proofs.JumpWorks.{works-jump-memory}
use Rattle.execute.proofs.jumps.jump_memory.Goals as goal

pub returns : goal.returns
returns c =
    let a = c.args in
    λ busy m ch.
    rw (c.past.ensures, c.size.ensures, c.grown_by_width.ensures, c.led_by.ensures, c.agrees-taken.ensures, c.operand_in.ensures)
    (works-jump-memory a.f m ch a.zero a.o a.two busy)
