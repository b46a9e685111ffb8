-- `script_lines::pointer` meets its contract.
-- Assumes nothing.
use Rattle.page.proofs.PageLaws.{written_both}
use Rattle.script_lines.specs.Lines.{pointer_text}
use Rattle.script_lines.proofs.pointer.Goals as goal

pub returns-clause-put : goal.returns-clause-put
unfolding pointer_text
returns-clause-put c = simp (c.mark.ensures.put, c.from.ensures, c.register.ensures.put, ← written_both)
