-- `script_lines::shown_line` meets its contract.
-- Assumes nothing.
use Rattle.page.proofs.PageLaws.{written_both}
use Rattle.script_lines.specs.Lines.{shown_line}
use Rattle.script_lines.proofs.shown_line.Goals as goal

pub returns-clause-put : goal.returns-clause-put
unfolding shown_line
returns-clause-put c = simp (c.append-2.ensures.put, c.sixteen.ensures.put, c.append.ensures.put, ← written_both)
