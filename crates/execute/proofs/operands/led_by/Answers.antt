-- `execute::operands::led_by` meets its contract.
-- Assumes nothing.
use Rattle.execute.proofs.operands.led_by.Goals as goal

pub returns-then-taken : goal.returns-then-taken
returns-then-taken c = simp (c.landing_by.ensures, c.if-taken.true)
