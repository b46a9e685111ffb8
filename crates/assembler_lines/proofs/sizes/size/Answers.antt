-- `assembler_lines::sizes::size` meets its contract.
-- Assumes nothing.
use mathlib.Core.Path.{subst}
use Rattle.std.specs.Prelude.{Result}
use Rattle.assembler_lines.specs.declared.bodies.Body.{Body}
use Rattle.assembler_lines.specs.declared.bodies.LineRefusal.{LineRefusal}
use Rattle.assembler_lines.specs.Bodies.{BodyIs}
use Rattle.assembler_lines.proofs.CountLaws.{size-refused}
use Rattle.assembler_lines.proofs.sizes.size.Goals as goal

pub returns-in-Ok : goal.returns-in-Ok
returns-in-Ok c text s h = c.size.ensures text s (subst (λ (x : Result Body LineRefusal). BodyIs text x s) c.in-Ok.is h)

pub returns-in-Err : goal.returns-in-Err
returns-in-Err c text s h = size-refused _ s (subst (λ (x : Result Body LineRefusal). BodyIs text x s) c.in-Err.is h).0
