-- `assembler_bytes::instructions::put` meets its contract.
-- Assumes nothing.
use mathlib.Core.Path.{sym, ap, ◌∙◌}
use mathlib.Core.List.{[]}
use Rattle.assembler_text.specs.Places.{labels_of}
use Rattle.assembler_bytes.specs.Placed.{are_moved}
use Rattle.assembler_bytes.proofs.LaidLaws.{laid_none, laid_same}
use Rattle.assembler_bytes.proofs.PlacedLaws.{move-told, plain-told}
use Rattle.assembler_bytes.proofs.instructions.put.Goals as goal

pub returns-then-is_move : goal.returns-then-is_move
returns-then-is_move c s i =
    let a = c.args in
    sym (laid_none _ _) ∙ c.put_offset.ensures [] ∙ c.put_second-next.ensures _ ∙ c.put_offsets-next.ensures _ ∙ c.put_pair-next.ensures _
    ∙ rw c.place_all.ensures (laid_same a.room.now 0 _ _ (move-told (labels_of a.text.now a.labels.now) a.text.now a.code a.operands s i a.address (ap are_moved (sym c.place_all.ensures) ∙ sym c.is_move.ensures ∙ c.if-is_move.true)))

pub returns : goal.returns
returns c s i =
    let a = c.args in
    sym (laid_none _ _) ∙ c.put_numbers.ensures [] ∙ c.put_offsets-next-2.ensures _ ∙ c.put_pair-next.ensures _
    ∙ rw c.place_all.ensures (laid_same a.room.now 0 _ _ (plain-told (labels_of a.text.now a.labels.now) a.text.now a.code a.operands s i a.address _ (c.end_of.ensures _ s i) (ap are_moved (sym c.place_all.ensures) ∙ sym c.is_move.ensures ∙ c.if-is_move.false)))
