-- `state_bytes::layout::codes_fit` meets its contract.
-- Assumes nothing.
use Rattle.state_bytes.proofs.TestLaws.{codes-by}
use Rattle.state_bytes.proofs.layout.codes_fit.Goals as goal

pub returns : goal.returns
returns c = rw (c.is_code-3.ensures, c.is_code-2.ensures, c.is_code.ensures) (codes-by _ _)
