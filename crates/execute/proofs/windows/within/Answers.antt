-- `execute::windows::within` meets its contract.
-- Assumes nothing.
use Rattle.std.proofs.Common.{le-ltb, lt-ltb}
use Rattle.execute.specs.Bytes.{reachable}
use Rattle.execute.proofs.windows.within.Goals as goal

pub returns-then-space-most : goal.returns-then-space-most
unfolding reachable
returns-then-space-most c = simp (lt-ltb _ _ c.if-space-most.true)

pub returns-else-space-most : goal.returns-else-space-most
unfolding reachable
returns-else-space-most c = simp (le-ltb _ _ c.if-space-most.false)
