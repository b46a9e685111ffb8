-- `execute::memories::memory_alone` meets its contract.
-- Assumes nothing.
use Rattle.execute.proofs.MemoryWorks.{works-memory-alone}
use Rattle.execute.proofs.memories.memory_alone.Goals as goal

pub returns : goal.returns
returns c busy m ch = simp (c.stores.ensures, c.grown_by_width.ensures, c.size-size.ensures, c.single-w.ensures, c.operand_in.ensures) (works-memory-alone _ _ busy m ch _)
