-- `state_bytes::layout::pointer_in` meets its contract.
-- Assumes nothing.
use Rattle.state_rules.specs.Layout.{pointer_in}
use Rattle.state_bytes.proofs.layout.pointer_in.Goals as goal

pub returns : goal.returns
unfolding pointer_in
returns c = rw (c.long.ensures, c.flag.ensures)
