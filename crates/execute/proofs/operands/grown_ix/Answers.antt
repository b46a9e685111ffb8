-- `execute::operands::grown_ix` meets its contract.
-- Assumes nothing.
use Rattle.std.proofs.Common.{eq-eqb, ne_eqb}
use Rattle.execute.specs.Bytes.{grown_ix}
use Rattle.execute.proofs.operands.grown_ix.Goals as goal

pub returns-then-m-eq3 : goal.returns-then-m-eq3
unfolding grown_ix
returns-then-m-eq3 c = simp (c.wrapping_add_u16.ensures.value, c.if-m-eq3.true, eq-eqb _ _ c.if-m-eq3.true)

pub returns-else-m-eq3 : goal.returns-else-m-eq3
unfolding grown_ix
returns-else-m-eq3 c = simp (ne_eqb _ _ c.if-m-eq3.false)
