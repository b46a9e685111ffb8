-- `script_lines::marks` meets its contract.
-- Assumes nothing.
use Rattle.page.proofs.PageLaws.{written_both}
use Rattle.script_lines.specs.Lines.{marks_text}
use Rattle.script_lines.proofs.marks.Goals as goal

pub returns-clause-put : goal.returns-clause-put
unfolding marks_text
returns-clause-put c = simp (c.append.ensures.put, c.number.ensures, c.from.ensures, c.register-2.ensures.put, c.mark.ensures.put, c.number_of_mode.ensures, c.register.ensures.put, ← written_both)
