-- `execute::findings::behind` meets its contract.
-- Assumes nothing.
use Rattle.execute.proofs.WindowLaws.{behind-offset, behind-pair}
use Rattle.execute.proofs.findings.behind.Goals as goal

pub returns-then-aa-eq1 : goal.returns-then-aa-eq1
returns-then-aa-eq1 c = λ m p known e. behind-offset m known p _ _ e c.if-aa-eq1.true

pub returns-else-aa-eq1 : goal.returns-else-aa-eq1
returns-else-aa-eq1 c = λ m p known e. behind-pair m known p _ _ e c.if-aa-eq1.false
