-- `script_lines::channel_line` meets its contract.
-- Assumes nothing.
use Rattle.page.proofs.PageLaws.{written_both}
use Rattle.script_lines.specs.Lines.{channel_line}
use Rattle.script_lines.proofs.channel_line.Goals as goal

pub returns-clause-put : goal.returns-clause-put
unfolding channel_line
returns-clause-put c = simp (c.marks.ensures.put, c.numbers.ensures.put, c.pointers.ensures.put, c.append.ensures.put, ← written_both)
