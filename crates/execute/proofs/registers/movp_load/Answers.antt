-- `execute::registers::movp_load` meets its contract.
-- Assumes nothing.
use Rattle.execute.proofs.RegisterWorks.{works-movp-load}
use Rattle.execute.proofs.registers.movp_load.Goals as goal

pub returns : goal.returns
returns c busy m ch = simp (c.writes.ensures, c.stored_tag.ensures, c.stored_address.ensures, c.grown_ix.ensures) (works-movp-load _ _ busy m ch _)
