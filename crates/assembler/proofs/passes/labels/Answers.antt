-- `assembler::passes::labels` meets its contract. The loop's invariant: the labels so far and those of the lines from here on are all of them.
-- Assumes nothing.
use native.Mathlib.Omega.{arith}
use mathlib.Core.Path.{sym, ap, ◌∙◌}
use mathlib.Core.List.{[]}
use Prim.Native.Nat.{ℕ}
use Rattle.std.specs.Prelude.{Option}
use Rattle.assembly_rules.specs.Assembly.{labels_from}
use Rattle.assembly_rules.proofs.LabelLaws.{labels-reduced}
use Rattle.assembler_text.specs.Places.{labels_at}
use Rattle.assembler.specs.Passes.{said_from, said_to, labels_in}
use Rattle.assembler.proofs.WalkLaws.{labels-step, labels-none}
use Rattle.assembler.proofs.passes.labels.Goals as goal

pub loop-place-init : goal.loop-place-init
unfolding labels_at
loop-place-init c = (omega arith, (omega arith, (c.requires.0, (c.requires.1, labels-reduced (said_from c.args.text.now 0) [] c.args.first))))

pub loop-place-preserved : goal.loop-place-preserved
loop-place-preserved c =
    let l = c.loop-place in
    let text = c.args.text.now in
    let kept = c.kept-count in
    let is = c.line_at-line.ensures in
    let more = labels-step (labels_in text l.places l.addresses l.count) l.address l.invariant.0 _ _ _ is.says _ is.size _ kept.ensures.result_after _ c.behind-address.ensures in
    rw c.line_next-place.ensures (omega (arith, c.behind-address.ensures), (kept.ensures.upper_bound, (kept.ensures.places_len.0, (kept.ensures.places_len.1, more ∙ ap (λ (p : Option ℕ). labels_from (labels_in text l.places l.addresses l.count) l.address (said_to text p)) (sym c.in-Some.is) ∙ l.invariant.1.1.1.1))))

pub returns-clause-result_after : goal.returns-clause-result_after
returns-clause-result_after c =
    let l = c.loop-place in
    let text = c.args.text.now in
    sym (labels-none (labels_in text l.places l.addresses l.count) l.address) ∙ ap (λ (p : Option ℕ). labels_from (labels_in text l.places l.addresses l.count) l.address (said_to text p)) (sym c.in_default.is) ∙ l.invariant.1.1.1.1
