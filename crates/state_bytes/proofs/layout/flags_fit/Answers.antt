-- `state_bytes::layout::flags_fit` meets its contract.
-- Assumes nothing.
use Rattle.state_bytes.proofs.TestLaws.{flags-by}
use Rattle.state_bytes.proofs.layout.flags_fit.Goals as goal

pub returns : goal.returns
returns c = rw (c.is_flag-6.ensures, c.is_flag-5.ensures, c.is_flag-4.ensures, c.is_flag-3.ensures, c.is_flag-2.ensures, c.is_flag.ensures) (flags-by _ _)
