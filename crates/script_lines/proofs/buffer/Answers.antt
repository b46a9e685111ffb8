-- `script_lines::buffer` meets its contract.
-- Assumes nothing.
use Rattle.page.proofs.PageLaws.{written_both}
use Rattle.script_lines.specs.Lines.{buffer_text}
use Rattle.script_lines.proofs.buffer.Goals as goal

pub returns-clause-put : goal.returns-clause-put
unfolding buffer_text
returns-clause-put c = simp (c.digest.ensures, c.from.ensures, c.register-2.ensures.put, c.register.ensures.put, ← written_both)
