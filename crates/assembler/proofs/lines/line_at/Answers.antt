-- `assembler::lines::line_at` meets its contract.
-- Assumes nothing.
use Rattle.assembler.proofs.WalkLaws.{line-is}
use Rattle.assembler.proofs.lines.line_at.Goals as goal

pub returns : goal.returns
returns c = line-is c.args.text.now c.args.at _ c.head-head.ensures _ c.body-said.ensures _ (c.size.ensures c.args.text.now _ c.body-said.ensures)
