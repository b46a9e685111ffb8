-- `transfer::ends/offset` meets its contract.
-- Assumes nothing.
use borrow.Author.Tests.{ne_eqb}
use Rattle.transfer_rules.specs.Ends.{offset_of}
use Rattle.transfer.proofs.ends.offset.Goals as goal

pub returns-in-2 : goal.returns-in-2
unfolding offset_of
returns-in-2 c = simp c.in-2.is

pub returns-in-3 : goal.returns-in-3
unfolding offset_of
returns-in-3 c = simp c.in-3.is

pub returns-in_default : goal.returns-in_default
unfolding offset_of
returns-in_default c = simp (ne_eqb _ _ c.in_default.in_default-own.rest.1, ne_eqb _ _ c.in_default.in_default-own.rest.0.1)
