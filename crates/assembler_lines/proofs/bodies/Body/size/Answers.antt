-- `assembler_lines::bodies::Body::size` meets its contract.
-- Assumes nothing.
use mathlib.Core.Path.{subst}
use Rattle.assembler_lines.specs.declared.bodies.Body.{Body}
use Rattle.assembler_lines.specs.Bodies.{Says}
use Rattle.assembler_lines.proofs.CountLaws.{size-blank, size-instruction}
use Rattle.assembler_lines.proofs.bodies.Body.size.Goals as goal

pub returns-in-Blank : goal.returns-in-Blank
returns-in-Blank c text s h = size-blank s (subst (λ (x : Body). Says text x s) c.in-Blank.is h)

pub returns-in-Items : goal.returns-in-Items
returns-in-Items c text s h = (subst (λ (x : Body). Says text x s) c.in-Items.is h).sized

pub returns-in-Instruction : goal.returns-in-Instruction
returns-in-Instruction c text s h = rw c.instruction_size.ensures.value (size-instruction text _ _ s (subst (λ (x : Body). Says text x s) c.in-Instruction.is h))
