-- `assembler::lines::label_stands` meets its contract.
-- Assumes nothing.
use mathlib.Core.Path.{sym, ap, subst, ◌∙◌}
use Rattle.std.specs.Prelude.{Option, IfSome}
use Rattle.assembly_rules.specs.Assembly.{label_stands}
use Rattle.assembler_text.specs.Places.{labels_of}
use Rattle.assembler_lines.specs.declared.bodies.NameSpan.{NameSpan}
use Rattle.assembler_lines.specs.Bodies.{SpanIs, span_name}
use Rattle.assembler.proofs.WalkLaws.{stands-none, stands-may}
use Rattle.assembler.proofs.lines.label_stands.Goals as goal

pub returns-in-Some : goal.returns-in-Some
returns-in-Some c address =
    let text = c.args.text.now in
    let labels = labels_of text c.args.labels.now in
    let fits = subst (λ (l : Option NameSpan). IfSome l (SpanIs text)) c.in-Some.is c.requires.0 in
    c.may_keep.ensures ∙ stands-may text _ fits labels address ∙ ap (λ (l : Option NameSpan). label_stands labels address (span_name text l)) (sym c.in-Some.is)

pub returns-in-None : goal.returns-in-None
returns-in-None c address =
    let text = c.args.text.now in
    let labels = labels_of text c.args.labels.now in
    stands-none labels address ∙ ap (λ (l : Option NameSpan). label_stands labels address (span_name text l)) (sym c.in-None.is)
