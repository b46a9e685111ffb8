-- `script_lines::shared_line` meets its contract.
-- Assumes nothing.
use Rattle.page.proofs.PageLaws.{written_both}
use Rattle.script_lines.specs.Lines.{shared_line}
use Rattle.script_lines.proofs.shared_line.Goals as goal

pub returns-clause-put : goal.returns-clause-put
unfolding shared_line
returns-clause-put c = simp (c.append.ensures.put, c.buffer-2.ensures.put, c.buffer.ensures.put, c.board_marks.ensures.put, c.number.ensures, c.from-2.ensures, c.register-2.ensures.put, c.from.ensures, c.register.ensures.put, ← written_both)
