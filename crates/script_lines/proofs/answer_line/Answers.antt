-- `script_lines::answer_line` meets its contract.
-- Assumes nothing.
use Rattle.page.proofs.PageLaws.{written_both}
use Rattle.script_lines.specs.Lines.{answer_line}
use Rattle.script_lines.proofs.answer_line.Goals as goal

pub returns-clause-put : goal.returns-clause-put
unfolding answer_line
returns-clause-put c = simp (c.append-2.ensures.put, c.append_decimal.ensures.put, c.append.ensures.put, ← written_both)
