-- `schedule_calls::finding::find` meets its contract.
-- Assumes nothing.
use mathlib.Core.{Bool.and_assoc, Path.sym, Path.◌∙◌}
use Rattle.ground_rules.proofs.ChoiceLaws.{and-true, and-false}
use Rattle.turn_rules.specs.Choosing.{requested}
use Rattle.schedule_rules.specs.Counts.{waits_for_drq}
use Rattle.schedule_calls.proofs.WordLaws.{once-byte}
use Rattle.schedule_calls.proofs.finding.find.Goals as goal

pub returns-then-not-transferring-clause-waits : goal.returns-then-not-transferring-clause-waits
unfolding waits_for_drq requested
returns-then-not-transferring-clause-waits c = let off = sym c.transferring.ensures ∙ c.if-not-transferring.true in
    rw off (simp and-false)

pub returns-then-not-f-clause-waits : goal.returns-then-not-f-clause-waits
unfolding waits_for_drq requested
returns-then-not-f-clause-waits c = let x = c.args.c.fields.synchronised in
    rw c.if-not-f.true (simp and-false)

pub returns-clause-waits : goal.returns-clause-waits
unfolding waits_for_drq requested
returns-clause-waits c = let x = c.args.c.fields.synchronised in
    let on = sym c.transferring.ensures ∙ c.if-not-transferring.false in
    let sync = c.if-not-f.false in
    let bit = c.bit-drq.ensures in
    rw (on, sync, c.is_running.ensures, bit, c.from.ensures) (rw (once-byte c.args.second) (simp (and-true, and_assoc)))
