-- `notation::lines::data_line` meets its contract. The loop's invariant: what stands written and what is to come are the line.
-- Assumes nothing.
use mathlib.Core.Path.{ap, ◌∙◌}
use native.Mathlib.Omega.{arith}
use lib.ListN.{length, length-take}
use Rattle.notation.specs.Writing.{held_by, held_in}
use Rattle.listing_rules.specs.Lines.{data_line}
use Rattle.notation.proofs.PieceLaws.{same-fits, same-wrote}
use Rattle.notation.proofs.DataLaws.{listing_start, listing-second, listing-next, listing-last, listing-end}
use Rattle.notation.proofs.lines.data_line.Goals as goal

pub push-requires : goal.push-requires
unfolding held_in held_by
push-requires c = record { size = c.new-line.ensures.0; room = omega (arith, c.new-line.ensures.1) }

pub loop-b-init : goal.loop-b-init
loop-b-init c =
    let part = c.first_five-b-items in
    listing_start part.result.now _ _ _ (omega (arith, ap length part.ensures, length-take 5 c.args.bytes.now)) c.new-line.ensures.0 (rw c.new-line.ensures.1 at c.push.ensures)

pub push-requires-in-loop-b-2 : goal.push-requires-in-loop-b-2
push-requires-in-loop-b-2 c =
    let l = c.loop-b in
    same-fits c.byte_number.ensures
    (listing-second c.first_five-b-items.result.now l.line.chars l.line.len l.separator l.b-index l.invariant c.loop-b-test.true _ _ c.push-in-loop-b.ensures)

pub loop-b-preserved : goal.loop-b-preserved
loop-b-preserved c =
    let l = c.loop-b in
    listing-next c.first_five-b-items.result.now l.line.chars l.line.len l.separator l.b-index l.invariant c.loop-b-test.true _ _ c.push-in-loop-b.ensures _ _
    (same-wrote c.byte_number.ensures c.push-in-loop-b-2.ensures)

pub push-requires-2 : goal.push-requires-2
push-requires-2 c =
    let l = c.loop-b in
    listing-last c.first_five-b-items.result.now l.line.chars l.line.len l.separator l.b-index l.invariant c.loop-b-test.false

pub returns : goal.returns
returns c =
    let l = c.loop-b in
    let part = c.first_five-b-items in
    let e = listing-end part.result.now l.line.chars l.line.len l.separator l.b-index l.invariant c.loop-b-test.false _ _ c.push-2.ensures in
    (e.0 ∙ ap data_line part.ensures, e.1)
