-- `script_lines::stepped_line` meets its contract.
-- Assumes nothing.
use Rattle.page.proofs.PageLaws.{written_both}
use Rattle.script_lines.specs.Lines.{stepped_line}
use Rattle.script_lines.proofs.stepped_line.Goals as goal

pub returns-clause-put : goal.returns-clause-put
unfolding stepped_line
returns-clause-put c = simp (c.count_text.ensures.put, c.letter.ensures, c.append-3.ensures.put, c.append_decimal-2.ensures.put, c.append-2.ensures.put, c.append_decimal.ensures.put, c.append.ensures.put, ← written_both)
