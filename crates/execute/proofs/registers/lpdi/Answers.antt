-- `execute::registers::lpdi` meets its contract.
-- Assumes nothing.
use Rattle.execute.proofs.RegisterWorks.{works-lpdi}
use Rattle.execute.proofs.registers.lpdi.Goals as goal

pub returns : goal.returns
returns c busy m ch = simp (c.writes.ensures, c.address-v.ensures) (works-lpdi _ busy m ch _)
