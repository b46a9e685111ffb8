-- `assembler_bytes::check_body` meets its contract.
-- Assumes nothing.
use mathlib.Core.Path.{sym, ap, subst, ◌∙◌}
use Rattle.assembly_rules.specs.Statements.{statement_number}
use Rattle.assembler_text.specs.Places.{labels_of}
use Rattle.assembler_lines.specs.declared.bodies.Body.{Body}
use Rattle.assembler_lines.specs.Bodies.{Says}
use Rattle.assembler_bytes.proofs.PlacedLaws.{blank-number}
use Rattle.assembler_bytes.proofs.check_body.Goals as goal

pub returns-in-Blank : goal.returns-in-Blank
returns-in-Blank c s h = let labels = labels_of c.args.text.now c.args.labels.now in blank-number labels c.args.address ∙ ap (statement_number labels c.args.address) (sym (subst (λ (x : Body). Says c.args.text.now x s) c.in-Blank.is h))

pub returns-in-Items : goal.returns-in-Items
returns-in-Items c s h =
    let labels = labels_of c.args.text.now c.args.labels.now in
    let k = subst (λ (x : Body). Says c.args.text.now x s) c.in-Items.is h in
    c.check.ensures (record { sums = k.sums; low = k.low }) c.args.address ∙ ap (statement_number labels c.args.address) (sym k.same)

pub returns-in-Instruction : goal.returns-in-Instruction
returns-in-Instruction c s h = c.check-in-Instruction.ensures s (subst (λ (x : Body). Says c.args.text.now x s) c.in-Instruction.is h)
