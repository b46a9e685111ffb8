-- `assembler_bytes::put_body` meets its contract.
-- Assumes nothing.
use mathlib.Core.Path.{sym, ap, subst, ◌∙◌}
use Rattle.assembly_rules.specs.Statements.{statement_bytes}
use Rattle.assembler_text.specs.Places.{labels_of}
use Rattle.assembler_lines.specs.declared.bodies.Body.{Body}
use Rattle.assembler_lines.specs.Bodies.{Says}
use Rattle.assembler_bytes.specs.Laid.{laid_at}
use Rattle.assembler_bytes.proofs.LaidLaws.{laid_none, laid-all}
use Rattle.assembler_bytes.proofs.PlacedLaws.{blank-bytes, items-bytes}
use Rattle.assembler_bytes.proofs.put_body.Goals as goal

pub returns-in-Blank : goal.returns-in-Blank
returns-in-Blank c s h =
    let a = c.args in
    let labels = labels_of a.text.now a.labels.now in
    let k = subst (λ (x : Body). Says a.text.now x s) c.in-Blank.is h in
    sym (laid_none a.room.now 0) ∙ ap (laid_at a.room.now 0) (sym (ap (statement_bytes labels a.address) k ∙ blank-bytes labels a.address)) ∙ laid-all a.room.now (statement_bytes labels a.address s)

pub returns-in-Items : goal.returns-in-Items
returns-in-Items c s h =
    let a = c.args in
    let labels = labels_of a.text.now a.labels.now in
    let k = subst (λ (x : Body). Says a.text.now x s) c.in-Items.is h in
    c.put.ensures (record { sums = k.sums; low = k.low }) ∙ ap (laid_at a.room.now 0) (sym (ap (statement_bytes labels a.address) k.same ∙ items-bytes labels a.address _ _)) ∙ laid-all a.room.now (statement_bytes labels a.address s)

pub returns-in-Instruction : goal.returns-in-Instruction
returns-in-Instruction c s h =
    let a = c.args in
    let labels = labels_of a.text.now a.labels.now in
    c.put-in-Instruction.ensures s (subst (λ (x : Body). Says a.text.now x s) c.in-Instruction.is h) ∙ laid-all a.room.now (statement_bytes labels a.address s)
