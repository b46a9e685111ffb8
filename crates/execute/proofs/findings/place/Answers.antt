-- `execute::findings::place` meets its contract.
-- Assumes nothing.
use Rattle.execute.specs.Findings.{place_named}
use Rattle.execute.proofs.WindowLaws.{index_in}
use Rattle.execute.proofs.findings.place.Goals as goal

pub returns-then-n : goal.returns-then-n
unfolding place_named
returns-then-n c = λ m known e. simp (c.onward.ensures, c.added.ensures, index_in m known c.args.c c.args.n.aa _ e, c.base.ensures, c.if-n.true)

pub returns-else-n : goal.returns-else-n
unfolding place_named
returns-else-n c = λ m known e. simp c.if-n.false
