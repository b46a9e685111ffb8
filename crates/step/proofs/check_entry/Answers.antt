-- `step::check_entry` meets its contract.
-- Assumes nothing.
use borrow.Author.Tests.{lt-ltb, le-ltb}
use Rattle.ground_rules.specs.Outcomes.{unless, first}
use Rattle.turn_rules.specs.Step.{entry_number}
use Rattle.step.proofs.check_entry.Goals as goal

pub returns-then-lines-ge16 : goal.returns-then-lines-ge16
unfolding entry_number first unless
returns-then-lines-ge16 c = rw (le-ltb _ _ c.if-lines-ge16.true)

pub returns : goal.returns
unfolding entry_number first unless
returns c = rw (c.check_given.ensures, lt-ltb _ _ c.if-lines-ge16.false)
