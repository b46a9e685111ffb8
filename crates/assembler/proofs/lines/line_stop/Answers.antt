-- `assembler::lines::line_stop` meets its contract.
-- Assumes nothing.
use Rattle.std.proofs.Common.{rules, tests}
use Rattle.assembler.specs.Passes.{in_line, line_stop}
use Rattle.assembler.proofs.lines.line_stop.Goals as goal

pub returns : goal.returns
unfolding line_stop
returns c = c.skip_while.ensures in_line (λ x b k. search (rules, tests))
