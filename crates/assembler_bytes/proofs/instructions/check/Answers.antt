-- `assembler_bytes::instructions::check` meets its contract.
-- Assumes nothing.
use mathlib.Core.Path.{sym, ap, ◌∙◌}
use mathlib.Core.Bool.{true, false}
use Rattle.std.specs.List.{list_all}
use Rattle.assembler_text.specs.Places.{labels_of}
use Rattle.assembler_bytes.specs.declared.placed.Placed.{Placed}
use Rattle.assembler_bytes.specs.Placed.{stand_by}
use Rattle.assembler_bytes.proofs.PlacedLaws.{number-unknown, number-known}
use Rattle.assembler_bytes.proofs.instructions.check.Goals as goal

pub returns-then-not-are_known : goal.returns-then-not-are_known
returns-then-not-are_known c s i =
    let a = c.args in
    number-unknown (labels_of a.text.now a.labels.now) a.text.now a.code a.operands s i (ap (list_all (λ (p : Placed). p.worth.known)) (sym c.place_all.ensures) ∙ sym c.are_known.ensures ∙ c.if-not-are_known.true) a.address

pub returns-then-not-may_stand : goal.returns-then-not-may_stand
returns-then-not-may_stand c s i =
    let a = c.args in
    number-known (labels_of a.text.now a.labels.now) a.text.now a.code a.operands s i (ap (list_all (λ (p : Placed). p.worth.known)) (sym c.place_all.ensures) ∙ sym c.are_known.ensures ∙ c.if-not-are_known.false) a.address _ (c.end_of-end.ensures _ s i) false
    (ap (list_all (λ (p : Placed). stand_by p.kind c.end_of-end.result p.worth.value)) (sym c.place_all.ensures) ∙ sym c.may_stand.ensures ∙ c.if-not-may_stand.true)

pub returns : goal.returns
returns c s i =
    let a = c.args in
    number-known (labels_of a.text.now a.labels.now) a.text.now a.code a.operands s i (ap (list_all (λ (p : Placed). p.worth.known)) (sym c.place_all.ensures) ∙ sym c.are_known.ensures ∙ c.if-not-are_known.false) a.address _ (c.end_of-end.ensures _ s i) true
    (ap (list_all (λ (p : Placed). stand_by p.kind c.end_of-end.result p.worth.value)) (sym c.place_all.ensures) ∙ sym c.may_stand.ensures ∙ c.if-not-may_stand.false)
