-- `execute::windows::over` meets its contract: both halves of the sum are in 64 bits together.
-- Assumes nothing.
use Rattle.std.proofs.Common.{refl, arith}
use Rattle.execute.specs.Bytes.{over_by}
use Rattle.execute.proofs.PieceLaws.{over-fits}
use Rattle.execute.proofs.windows.over.Goals as goal

pub overflow_add-result : goal.overflow_add-result
unfolding over_by
overflow_add-result c = omega (arith, over-fits c.args.low c.args.high c.args.passed (omega arith) c.requires.0 c.requires.1)

pub returns : goal.returns
unfolding over_by
returns c = refl
