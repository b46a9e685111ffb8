-- `execute::findings::operand` meets its contract.
-- Assumes nothing.
use Rattle.execute.proofs.findings.operand.Goals as goal

pub returns-then-any : goal.returns-then-any
returns-then-any c = simp (c.four.ensures, c.if-any.true)
