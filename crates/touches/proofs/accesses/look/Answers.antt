-- `touches::accesses::look` meets its contract.
-- Assumes nothing.
use Rattle.instruction_rules.specs.Execute.{decoded_at}
use Rattle.touches.proofs.accesses.look.Goals as goal

pub returns : goal.returns
unfolding decoded_at
returns c = simp (c.look_up.ensures, c.byte-2.ensures, c.onward.ensures, c.byte.ensures)
