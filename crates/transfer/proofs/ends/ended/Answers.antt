-- `transfer::ends/ended` meets its contract.
-- Assumes nothing.
use borrow.Author.Rules.{rules}
use borrow.Author.Tests.{ne_eqb}
use Rattle.transfer_rules.specs.Ends.{ended_tp, ended_psw, ended_by}
use Rattle.ground_rules.specs.Updates.{with_transfer}
use Rattle.transfer_rules.specs.Sides.{gained}
use Rattle.transfer.proofs.ends.ended.Goals as goal

pub returns-then-code-eq0 : goal.returns-then-code-eq0
unfolding ended_by ended_tp ended_psw with_transfer gained
returns-then-code-eq0 c = rw c.if-code-eq0.true

pub returns : goal.returns
unfolding ended_by ended_tp ended_psw with_transfer gained
returns c = rw (c.with.ensures, c.gained-next.ensures, c.offset.ensures, ne_eqb _ _ c.if-code-eq0.false)
