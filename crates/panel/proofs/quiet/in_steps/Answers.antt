-- `panel::quiet::in_steps` meets its contract.
-- Assumes nothing.
use Rattle.panel.proofs.quiet.in_steps.Goals as goal

pub returns-then-two : goal.returns-then-two
returns-then-two c = rw c.if-two.true

pub returns-else-two : goal.returns-else-two
returns-else-two c = rw c.if-two.false
