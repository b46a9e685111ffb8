-- `script_lines::board_marks` meets its contract.
-- Assumes nothing.
use Rattle.page.proofs.PageLaws.{written_both}
use Rattle.script_lines.specs.Lines.{board_text}
use Rattle.script_lines.proofs.board_marks.Goals as goal

pub returns-clause-put : goal.returns-clause-put
unfolding board_text
returns-clause-put c = simp (c.mark-4.ensures.put, c.mark-3.ensures.put, c.mark-2.ensures.put, c.mark.ensures.put, ← written_both)
