-- `execute::registers::register_immediate` meets its contract.
-- Assumes nothing.
use Rattle.execute.proofs.RegisterWorks.{works-register-immediate}
use Rattle.execute.proofs.registers.register_immediate.Goals as goal

pub returns : goal.returns
returns c busy m ch = simp (c.writes.ensures, c.is_move.ensures, c.work-v.ensures, c.operand_in.ensures) (works-register-immediate _ _ _ busy m ch _)
