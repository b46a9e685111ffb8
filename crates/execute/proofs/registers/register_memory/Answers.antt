-- `execute::registers::register_memory` meets its contract.
-- Assumes nothing.
use Rattle.execute.proofs.RegisterWorks.{works-register-memory}
use Rattle.execute.proofs.registers.register_memory.Goals as goal

pub returns : goal.returns
returns c busy m ch = simp (c.writes.ensures, c.is_move.ensures, c.size.ensures, c.grown_by_width.ensures, c.work-v.ensures, c.operand_in.ensures) (works-register-memory _ _ _ busy m ch _)
