-- `script_lines::pointers` meets its contract.
-- Assumes nothing.
use Rattle.page.proofs.PageLaws.{written_both}
use Rattle.script_lines.specs.Lines.{pointers_text}
use Rattle.script_lines.proofs.pointers.Goals as goal

pub returns-clause-put : goal.returns-clause-put
unfolding pointers_text
returns-clause-put c = simp (c.pointer-4.ensures.put, c.pointer-3.ensures.put, c.pointer-2.ensures.put, c.pointer.ensures.put, ← written_both)
