-- `execute::memories::memory_immediate` meets its contract.
-- Assumes nothing.
use Rattle.execute.proofs.MemoryWorks.{works-memory-immediate}
use Rattle.execute.proofs.memories.memory_immediate.Goals as goal

pub returns : goal.returns
returns c busy m ch = simp (c.worked_back.ensures, c.operand_in.ensures) (works-memory-immediate _ _ busy m ch _)
