-- `panel::quiet::met` meets its contract.
-- Assumes nothing.
use borrow.Author.Tests.{eq-eqb}
use Rattle.transfer_rules.specs.Ends.{meets_tmc}
use Rattle.panel.proofs.quiet.met.Goals as goal

pub returns-then-f-eq0 : goal.returns-then-f-eq0
unfolding meets_tmc
returns-then-f-eq0 c = rw (eq-eqb _ _ c.if-f-eq0.true)
