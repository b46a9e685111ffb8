-- `execute::memories::memory_register` meets its contract.
-- Assumes nothing.
use Rattle.execute.proofs.MemoryWorks.{works-memory-register}
use Rattle.execute.proofs.memories.memory_register.Goals as goal

pub returns : goal.returns
returns c busy m ch = simp c.worked_back.ensures (works-memory-register _ _ _ busy m ch _)
