-- `notation::lines::instruction_line` meets its contract: word, operands and line feed are written one behind the other, and all fit.
-- Assumes nothing.
use mathlib.Core.Path.{refl, ap, ◌∙◌}
use Rattle.notation.specs.Writing.{held_by, held_in}
use Rattle.listing_rules.specs.Mnemonics.{mnemonic_of}
use Rattle.listing_rules.specs.Lines.{line_with, instruction_line}
use Rattle.listing_rules.specs.declared.Slots.{Slots}
use Rattle.notation.proofs.PieceLaws.{fits_head, fits_next, wrote-both, line-written, same-fits, same-wrote, line-begun}
use Rattle.notation.proofs.lines.instruction_line.Goals as goal

pub push_all-requires : goal.push_all-requires
unfolding line_with
push_all-requires c =
    same-fits c.mnemonic.ensures (fits_head _ _ (line-begun _ c.args.bytes.now c.args.end c.args.s c.args.to _ c.new-line.ensures c.slots_of-places.ensures))

pub operand-requires : goal.operand-requires
unfolding held_in held_by
operand-requires c = refl

pub push_all-requires-2 : goal.push_all-requires-2
unfolding line_with
push_all-requires-2 c =
    same-fits c.operand.ensures (fits_head _ _ (fits_next _ _ (line-begun _ c.args.bytes.now c.args.end c.args.s c.args.to _ c.new-line.ensures c.slots_of-places.ensures) (same-wrote c.mnemonic.ensures c.push_all.ensures)))

pub operand-requires-2 : goal.operand-requires-2
unfolding held_in held_by
operand-requires-2 c = refl

pub push_all-requires-3 : goal.push_all-requires-3
unfolding line_with
push_all-requires-3 c =
    same-fits c.operand-2.ensures (fits_head _ _ (fits_next _ _ (fits_next _ _ (line-begun _ c.args.bytes.now c.args.end c.args.s c.args.to _ c.new-line.ensures c.slots_of-places.ensures) (same-wrote c.mnemonic.ensures c.push_all.ensures)) (same-wrote c.operand.ensures c.push_all-2.ensures)))

pub operand-requires-3 : goal.operand-requires-3
unfolding held_in held_by
operand-requires-3 c = refl

pub push_all-requires-4 : goal.push_all-requires-4
unfolding line_with
push_all-requires-4 c =
    same-fits c.operand-3.ensures (fits_head _ _ (fits_next _ _ (fits_next _ _ (fits_next _ _ (line-begun _ c.args.bytes.now c.args.end c.args.s c.args.to _ c.new-line.ensures c.slots_of-places.ensures) (same-wrote c.mnemonic.ensures c.push_all.ensures)) (same-wrote c.operand.ensures c.push_all-2.ensures)) (same-wrote c.operand-2.ensures c.push_all-3.ensures)))

pub push-requires : goal.push-requires
unfolding line_with held_in held_by
push-requires c =
    fits_next _ _ (fits_next _ _ (fits_next _ _ (fits_next _ _ (line-begun _ c.args.bytes.now c.args.end c.args.s c.args.to _ c.new-line.ensures c.slots_of-places.ensures) (same-wrote c.mnemonic.ensures c.push_all.ensures)) (same-wrote c.operand.ensures c.push_all-2.ensures)) (same-wrote c.operand-2.ensures c.push_all-3.ensures)) (same-wrote c.operand-3.ensures c.push_all-4.ensures)

pub returns : goal.returns
unfolding instruction_line line_with held_in held_by
returns c =
    let w = line-written c.new-line.ensures.1 (wrote-both _ _ (same-wrote c.mnemonic.ensures c.push_all.ensures) (wrote-both _ _ (same-wrote c.operand.ensures c.push_all-2.ensures) (wrote-both _ _ (same-wrote c.operand-2.ensures c.push_all-3.ensures) (wrote-both _ _ (same-wrote c.operand-3.ensures c.push_all-4.ensures) c.push.ensures)))) in
    let a = c.args in
    (w.0 ∙ ap (λ (p : Slots). line_with (mnemonic_of a.s) p a.bytes.now a.end) c.slots_of-places.ensures, w.1)
