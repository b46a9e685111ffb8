-- `script_lines::swept_line` meets its contract.
-- Assumes nothing.
use Rattle.page.proofs.PageLaws.{written_both}
use Rattle.script_lines.specs.Lines.{swept_line}
use Rattle.script_lines.proofs.swept_line.Goals as goal

pub returns-clause-put : goal.returns-clause-put
unfolding swept_line
returns-clause-put c = simp (c.count_text.ensures.put, c.append_decimal-2.ensures.put, c.append-2.ensures.put, c.append_decimal.ensures.put, c.append.ensures.put, ← written_both)
