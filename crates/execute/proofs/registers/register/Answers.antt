-- `execute::registers::register` meets its contract.
-- Assumes nothing.
use Rattle.execute.proofs.RegisterWorks.{works-register}
use Rattle.execute.proofs.registers.register.Goals as goal

pub returns : goal.returns
returns c busy m ch = simp (c.writes.ensures, c.single.ensures) (works-register _ _ busy m ch _)
