-- `schedule_calls::counting::step` meets its contract.
-- Assumes nothing.
use mathlib.Core.{Bool.Bool, Bool.true, Bool.false, Path.◌≡◌, Path.refl, Path.sym, Path.ap, Path.◌∙◌}
use Rattle.std.proofs.Common.{ℕ, ◌+◌, ◌*◌, ◌/◌, ◌%◌, eqb, arith}
use borrow.Author.{Tests.eq-eqb, Tests.ne_eqb}
use Rattle.ground_rules.specs.Choice.{pick}
use Rattle.schedule_calls.specs.Words.{added_at, added_all}
use Rattle.schedule_calls.proofs.WordLaws.{none-at, once-byte}
use Rattle.schedule_calls.proofs.counting.step.Goals.{then-answer-eq2-2, else-answer-eq2-2}
use Rattle.schedule_calls.proofs.counting.step.Goals as goal

pub returns-then-answer-ne0 : goal.returns-then-answer-ne0
unfolding added_all
returns-then-answer-ne0 c =
    rw (ne_eqb _ 0 c.if-answer-ne0.true, c.add-then-answer-ne0.ensures, c.add-2.ensures, c.add.ensures, c.from-2.ensures, c.from.ensures)
    (rw (once-byte c.args.first.waits, once-byte c.args.second.waits))

-- the word behind that of transfer steps has the bytes that they stored
behind : (second : Bool) → pick second 9 2 + (3 * 2 + 1) / 2 + 1 ≡ pick second 9 2 + 4
behind true = refl
behind false = refl

pub returns-after-answer-eq2-2 : goal.returns-after-answer-eq2-2
unfolding added_all
returns-after-answer-eq2-2 c =
    let reads : c.if-answer-eq2-2.stepped.reads ≡ pick (eqb (c.args.answer / 256 % 4) 2) c.args.second.reads c.args.first.reads
    = elim c.if-answer-eq2-2.branch [ then-answer-eq2-2 w ↦ rw (w.stepped-is, eq-eqb _ 2 w.if-answer-eq2-2.true) refl | else-answer-eq2-2 w ↦ rw (w.stepped-is, ne_eqb _ 2 w.if-answer-eq2-2.false) refl ] in
    rw (c.add-then-answer-eq2.ensures, reads, c.add-4.ensures, c.add-3.ensures, c.add-2.ensures, c.add.ensures, c.from-2.ensures, c.from.ensures)
    (rw (once-byte c.args.first.waits, once-byte c.args.second.waits, c.counted_at-at.ensures.is, eq-eqb _ 0 c.if-answer-ne0.false, c.if-answer-eq2.true, behind (eqb (c.args.answer / 256 % 4) 2)))

pub returns-else-answer-eq2 : goal.returns-else-answer-eq2
unfolding added_all
returns-else-answer-eq2 c =
    let at : ℕ = pick (eqb (c.args.answer / 256 % 4) 2) 9 2 + 4 in
    rw (eq-eqb _ 0 c.if-answer-ne0.false, ne_eqb _ 2 c.if-answer-eq2.false)
    (sym (none-at at c.add-4.new.report (λ i. omega (arith, c.type_inv.report i)))
    ∙ ap (added_at at 0) (rw (c.add-4.ensures, c.add-3.ensures, c.add-2.ensures, c.add.ensures, c.counted_at-at.ensures.is, c.from-2.ensures, c.from.ensures) (rw (once-byte c.args.first.waits, once-byte c.args.second.waits))))
