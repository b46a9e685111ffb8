-- `execute::memories::movp_store` meets its contract.
-- Assumes nothing.
use Rattle.execute.proofs.MemoryWorks.{works-movp-store}
use Rattle.execute.proofs.memories.movp_store.Goals as goal

pub returns : goal.returns
returns c busy m ch = simp (c.stores.ensures, c.stored_value.ensures, c.grown_ix.ensures) (works-movp-store _ _ busy m ch _)
