-- `assembler_bytes::instructions::end_of` meets its contract.
-- Assumes nothing.
use Prim.Native.Nat.{ℕ, ◌+◌}
use mathlib.Core.Path.{ap}
use Rattle.assembly_rules.specs.Statements.{statement_size}
use Rattle.assembler_lines.proofs.CountLaws.{size-instruction}
use Rattle.assembler_bytes.proofs.instructions.end_of.Goals as goal

pub returns : goal.returns
returns c text s i = rw (c.instruction_size.ensures.value, size-instruction text _ _ s i) (ap (λ (n : ℕ). n + statement_size s) c.from.ensures)
