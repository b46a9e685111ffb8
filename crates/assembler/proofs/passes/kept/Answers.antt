-- `assembler::passes::kept` meets its contract.
-- Assumes nothing.
use Prim.Native.Nat.{◌<◌}
use native.Mathlib.Omega.{arith}
use mathlib.Core.Path.{sym, ap, subst, ◌∙◌}
use Rattle.std.specs.Prelude.{Option, IfSome}
use Rattle.assembly_rules.specs.Assembly.{kept_with}
use Rattle.assembly_rules.proofs.LabelLaws.{may-parts}
use Rattle.assembler_lines.specs.declared.bodies.NameSpan.{NameSpan}
use Rattle.assembler_lines.specs.Bodies.{SpanIs, span_name}
use Rattle.assembler.specs.Passes.{labels_in}
use Rattle.assembler.proofs.WalkLaws.{labels-kept, labels-count, kept_same, kept_more}
use Rattle.assembler.proofs.passes.kept.Goals as goal

pub returns-in_default-clause-result_after : goal.returns-in_default-clause-result_after
unfolding kept_with
returns-in_default-clause-result_after c = let a = c.args in sym (ap (λ (l : Option NameSpan). kept_with (labels_in a.text.now a.places.now a.addresses.now a.count) a.address (span_name a.text.now l)) c.in_default.is)

pub returns-then-not-may_keep-clause-result_after : goal.returns-then-not-may_keep-clause-result_after
returns-then-not-may_keep-clause-result_after c =
    let a = c.args in
    let fits = subst (λ (l : Option NameSpan). IfSome l (SpanIs a.text.now)) c.in-Some.is c.requires.1.1.1 in
    kept_same a.text.now _ fits (labels_in a.text.now a.places.now a.addresses.now a.count) a.address (sym c.may_keep.ensures ∙ c.if-not-may_keep.true)
    ∙ ap (λ (l : Option NameSpan). kept_with (labels_in a.text.now a.places.now a.addresses.now a.count) a.address (span_name a.text.now l)) (sym c.in-Some.is)

pub bounds-places-count : goal.bounds-places-count
bounds-places-count c = omega (arith, (may-parts _ _ (sym c.may_keep.ensures ∙ c.if-not-may_keep.false)).1.1.1, labels-count c.args.text.now c.args.places.now c.args.addresses.now c.args.count (c.requires.0 ∙ sym c.requires.1.0) (omega arith), c.requires.0)

pub bounds-addresses-count : goal.bounds-addresses-count
bounds-addresses-count c =
    let l : c.args.count < 64 = omega (arith, (may-parts _ _ (sym c.may_keep.ensures ∙ c.if-not-may_keep.false)).1.1.1, labels-count c.args.text.now c.args.places.now c.args.addresses.now c.args.count (c.requires.0 ∙ sym c.requires.1.0) (omega arith), c.requires.0) in
    omega (arith, l, c.requires)

pub returns-clause-upper_bound : goal.returns-clause-upper_bound
returns-clause-upper_bound c =
    let l : c.args.count < 64 = omega (arith, (may-parts _ _ (sym c.may_keep.ensures ∙ c.if-not-may_keep.false)).1.1.1, labels-count c.args.text.now c.args.places.now c.args.addresses.now c.args.count (c.requires.0 ∙ sym c.requires.1.0) (omega arith), c.requires.0) in
    omega (arith, l)

pub returns-clause-result_after : goal.returns-clause-result_after
returns-clause-result_after c =
    let a = c.args in
    let l : a.count < 64 = omega (arith, (may-parts _ _ (sym c.may_keep.ensures ∙ c.if-not-may_keep.false)).1.1.1, labels-count a.text.now a.places.now a.addresses.now a.count (c.requires.0 ∙ sym c.requires.1.0) (omega arith), c.requires.0) in
    let fits = subst (λ (l : Option NameSpan). IfSome l (SpanIs a.text.now)) c.in-Some.is c.requires.1.1.1 in
    labels-kept a.text.now a.places.now a.addresses.now a.count c.in-Some.name.from a.address c.requires.0 c.requires.1.0 l ∙ kept_more a.text.now _ fits (labels_in a.text.now a.places.now a.addresses.now a.count) a.address (sym c.may_keep.ensures ∙ c.if-not-may_keep.false)
    ∙ ap (λ (l : Option NameSpan). kept_with (labels_in a.text.now a.places.now a.addresses.now a.count) a.address (span_name a.text.now l)) (sym c.in-Some.is)
