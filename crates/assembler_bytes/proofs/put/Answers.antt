-- `assembler_bytes::put` meets its contract.
-- Assumes nothing.
use mathlib.Core.Path.{sym, ap, subst, ◌∙◌}
use Rattle.std.specs.Prelude.{Result}
use Rattle.assembly_rules.specs.Statements.{statement_bytes}
use Rattle.assembler_text.specs.Places.{labels_of}
use Rattle.assembler_lines.specs.declared.bodies.Body.{Body}
use Rattle.assembler_lines.specs.declared.bodies.LineRefusal.{LineRefusal}
use Rattle.assembler_lines.specs.Bodies.{BodyIs}
use Rattle.assembler_bytes.specs.Laid.{laid_at}
use Rattle.assembler_bytes.proofs.LaidLaws.{laid_none, laid-all}
use Rattle.assembler_bytes.proofs.PlacedLaws.{refused-bytes}
use Rattle.assembler_bytes.proofs.put.Goals as goal

pub returns-in-Ok : goal.returns-in-Ok
returns-in-Ok c s h = c.put_body.ensures s (subst (λ (x : Result Body LineRefusal). BodyIs c.args.text.now x s) c.in-Ok.is h)

pub returns-in_default : goal.returns-in_default
returns-in_default c s h =
    let a = c.args in
    let labels = labels_of a.text.now a.labels.now in
    let k = (subst (λ (x : Result Body LineRefusal). BodyIs a.text.now x s) c.in_default.is h).0 in
    sym (laid_none a.room.now 0) ∙ ap (laid_at a.room.now 0) (sym (ap (statement_bytes labels a.address) k ∙ refused-bytes labels a.address _)) ∙ laid-all a.room.now (statement_bytes labels a.address s)
