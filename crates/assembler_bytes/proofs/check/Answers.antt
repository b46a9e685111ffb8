-- `assembler_bytes::check` meets its contract.
-- Assumes nothing.
use mathlib.Core.Path.{sym, ap, subst, ◌∙◌}
use Rattle.std.specs.Prelude.{Result}
use Rattle.assembly_rules.specs.Statements.{statement_number}
use Rattle.assembler_text.specs.Places.{labels_of}
use Rattle.assembler_lines.specs.declared.bodies.Body.{Body}
use Rattle.assembler_lines.specs.declared.bodies.LineRefusal.{LineRefusal}
use Rattle.assembler_lines.specs.Bodies.{BodyIs}
use Rattle.assembler_bytes.proofs.PlacedLaws.{refused-number}
use Rattle.assembler_bytes.proofs.check.Goals as goal

pub returns-in-Ok : goal.returns-in-Ok
returns-in-Ok c s h = c.check_body.ensures s (subst (λ (x : Result Body LineRefusal). BodyIs c.args.text.now x s) c.in-Ok.is h)

pub returns-in-Err : goal.returns-in-Err
returns-in-Err c s h =
    let labels = labels_of c.args.text.now c.args.labels.now in
    let k = (subst (λ (x : Result Body LineRefusal). BodyIs c.args.text.now x s) c.in-Err.is h).0 in
    refused-number labels c.args.address _ ∙ ap (statement_number labels c.args.address) (sym k)
