-- `execute::registers::lpd` meets its contract.
-- Assumes nothing.
use Rattle.execute.proofs.RegisterWorks.{works-lpd}
use Rattle.execute.proofs.registers.lpd.Goals as goal

pub returns : goal.returns
returns c busy m ch = simp (c.writes.ensures, c.grown_ix.ensures, c.address-v.ensures) (works-lpd _ _ busy m ch _)
