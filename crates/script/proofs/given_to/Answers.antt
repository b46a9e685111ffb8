-- `script::given_to` meets its contract.
-- Assumes nothing.
use native.Mathlib.Omega.{arith}
use Rattle.script.proofs.given_to.Goals as goal

pub file_end-to-requires : goal.file_end-to-requires
file_end-to-requires c = omega (arith, c.behind-next.ensures)

pub returns-then-matches : goal.returns-then-matches
returns-then-matches c = omega (arith, c.behind-next.ensures, c.file_end-to.ensures.lower_bound.0, c.file_end-to.ensures.lower_bound.1, c.line_end-last.ensures.lower_bound.0, c.line_end-last.ensures.lower_bound.1, c.behind.ensures, c.requires)

pub returns : goal.returns
returns c = omega (arith, c.behind-next.ensures, c.requires)
