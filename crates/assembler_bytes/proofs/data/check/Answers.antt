-- `assembler_bytes::data::check` meets its contract. The loop's invariant: the items from here on give the number that all give.
-- Assumes nothing.
use Prim.Native.Nat.{ℕ, ◌<◌}
use borrow.Author.Tests.{not-true, not-false}
use mathlib.Core.Bool.{Bool}
use mathlib.Core.Path.{refl, sym, ap, subst, ◌∙◌}
use Rattle.std.specs.Prelude.{Option}
use Rattle.ground_rules.specs.Choice.{pick}
use Rattle.assembler_text.specs.Places.{labels_of}
use Rattle.assembler_forms.specs.Rows.{left_behind}
use Rattle.assembler_forms.proofs.RowLaws.{part-behind}
use Rattle.assembler_bytes.specs.Laid.{data_at}
use Rattle.assembler_bytes.proofs.DataLaws.{NumberStands, items-begin, number-all, number-none, turn-unknown, number-turn}
use Rattle.assembler_bytes.proofs.data.check.Goals as goal

pub loop-item-init : goal.loop-item-init
loop-item-init c g = rw (c.first_item-item.ensures, sym (items-begin c.args.text.now c.args.place)) (g, refl)

pub returns-then-not-worth : goal.returns-then-not-worth
returns-then-not-worth c g address =
    let a = c.args in
    let l = c.loop-item in
    let text = a.text.now in
    let labels = labels_of text a.labels.now in
    let i = subst (NumberStands labels text a.two a.place l.stands) c.in-Some.is l.invariant g in
    turn-unknown labels text c.in-Some.at _ i.0 c.value-worth.ensures a.two l.stands (not-true _ c.if-not-worth.true) ∙ i.1 ∙ number-all labels address a.two (data_at text a.place)

pub loop-item-smaller : goal.loop-item-smaller
loop-item-smaller c =
    let text = c.args.text.now in
    subst (λ (p : Option ℕ). left_behind text c.next_part-item.result < left_behind text p) (sym c.in-Some.is) (part-behind text c.in-Some.at _ c.next_part-item.ensures)

pub loop-item-preserved : goal.loop-item-preserved
loop-item-preserved c g =
    let a = c.args in
    let l = c.loop-item in
    let text = a.text.now in
    let labels = labels_of text a.labels.now in
    let i = subst (NumberStands labels text a.two a.place l.stands) c.in-Some.is l.invariant g in
    let n = number-turn labels text c.in-Some.at _ i.0 c.value-worth.ensures a.two l.stands _ _ (not-false _ c.if-not-worth.false) c.is_byte.ensures c.next_part-item.ensures in
    (n.0, n.1 ∙ i.1)

pub returns-then-not-stands : goal.returns-then-not-stands
returns-then-not-stands c g address =
    let a = c.args in
    let l = c.loop-item in
    let text = a.text.now in
    let labels = labels_of text a.labels.now in
    let i = subst (NumberStands labels text a.two a.place l.stands) c.in_default.is l.invariant g in
    ap (λ (b : Bool). pick b 0 34) (sym c.if-not-stands.true) ∙ sym (number-none labels a.two l.stands) ∙ i.1 ∙ number-all labels address a.two (data_at text a.place)

pub returns : goal.returns
returns c g address =
    let a = c.args in
    let l = c.loop-item in
    let text = a.text.now in
    let labels = labels_of text a.labels.now in
    let i = subst (NumberStands labels text a.two a.place l.stands) c.in_default.is l.invariant g in
    ap (λ (b : Bool). pick b 0 34) (sym c.if-not-stands.false) ∙ sym (number-none labels a.two l.stands) ∙ i.1 ∙ number-all labels address a.two (data_at text a.place)
