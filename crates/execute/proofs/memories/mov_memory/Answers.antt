-- `memories::mov_memory` meets its contract.
-- Assumes nothing.
use Rattle.std.proofs.Common.{sym, ◌∙◌, Err}
use Rattle.instruction_rules.specs.MemoryForms.{mov_second_deed}
use Rattle.execute.proofs.MemoryWorks.{works-mov-memory, does-refuse}
use Rattle.execute.proofs.memories.mov_memory.Goals as goal

pub returns-in_default : goal.returns-in_default
returns-in_default c busy =
    works-mov-memory _ busy _ _ _ _ (Err c.second_refusal.result) (sym c.in_default.is ∙ c.decode_second-second.ensures)
    (λ known e. c.second_refusal.ensures ∙ does-refuse _ _ _)

pub returns : goal.returns
unfolding mov_second_deed
returns c busy =
    works-mov-memory _ busy _ _ _ _ c.mov_operand.result (sym c.in-Some.is ∙ c.decode_second-second.ensures)
    c.mov_operand.ensures
