-- `state_bytes::layout::fields_in` meets its contract.
-- Assumes nothing.
use Rattle.state_rules.specs.Layout.{fields_in}
use Rattle.state_bytes.proofs.layout.fields_in.Goals as goal

pub returns : goal.returns
unfolding fields_in
returns c = rw (c.byte-4.ensures, c.byte-3.ensures, c.byte-2.ensures, c.flag-6.ensures, c.flag-5.ensures, c.flag-4.ensures, c.byte.ensures, c.flag-3.ensures, c.flag-2.ensures, c.flag.ensures)
