-- `assembler_bytes::data::put` meets its contract. The loop's invariant: laying the items from here on is laying all.
-- Assumes nothing.
use Prim.Native.Nat.{ℕ, ◌<◌}
use mathlib.Core.Path.{refl, sym, ap, subst, ◌∙◌}
use Rattle.std.specs.Prelude.{Option}
use Rattle.assembler_text.specs.Places.{labels_of}
use Rattle.assembler_forms.specs.Rows.{left_behind}
use Rattle.assembler_forms.proofs.RowLaws.{part-behind}
use Rattle.assembler_bytes.specs.Laid.{laid_at}
use Rattle.assembler_bytes.proofs.LaidLaws.{laid_none}
use Rattle.assembler_bytes.proofs.DataLaws.{LayingStands, items-begin, bytes-none, bytes-turn}
use Rattle.assembler_bytes.proofs.data.put.Goals as goal

pub loop-item-init : goal.loop-item-init
loop-item-init c g = rw (c.first_item-item.ensures, sym (items-begin c.args.text.now c.args.place)) (g, refl)

pub loop-item-smaller : goal.loop-item-smaller
loop-item-smaller c =
    let text = c.args.text.now in
    subst (λ (p : Option ℕ). left_behind text c.next_part-item.result < left_behind text p) (sym c.in-Some.is) (part-behind text c.in-Some.at _ c.next_part-item.ensures)

pub loop-item-preserved : goal.loop-item-preserved
loop-item-preserved c g =
    let a = c.args in
    let l = c.loop-item in
    let text = a.text.now in
    let labels = labels_of text a.labels.now in
    let i = subst (LayingStands labels text a.two a.place a.code.now l.code l.next) c.in-Some.is l.invariant g in
    let n = bytes-turn labels text c.in-Some.at _ i.0 c.value-worth.ensures a.two _ c.next_part-item.ensures in
    (n.0, c.put_value-next.ensures _ ∙ ap (laid_at l.code l.next) n.1 ∙ i.1)

pub returns : goal.returns
returns c g =
    let a = c.args in
    let l = c.loop-item in
    let text = a.text.now in
    let labels = labels_of text a.labels.now in
    let i = subst (LayingStands labels text a.two a.place a.code.now l.code l.next) c.in_default.is l.invariant g in
    sym (laid_none l.code l.next) ∙ ap (laid_at l.code l.next) (sym (bytes-none labels a.two)) ∙ i.1
