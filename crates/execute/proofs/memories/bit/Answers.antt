-- `execute::memories::bit` meets its contract.
-- Assumes nothing.
use Rattle.instruction_rules.specs.MemoryForms.{bit_written}
use Rattle.execute.proofs.MemoryWorks.{works-bit}
use Rattle.execute.proofs.memories.bit.Goals as goal

pub returns : goal.returns
unfolding bit_written
returns c busy m ch = simp (c.stores.ensures, c.grown_ix.ensures, c.with_bit-v.ensures) (works-bit _ _ _ busy m ch _)
