-- `script_lines::register` meets its contract.
-- Assumes nothing.
use Rattle.page.proofs.PageLaws.{written_both}
use Rattle.script_lines.specs.Lines.{register_text}
use Rattle.script_lines.proofs.register.Goals as goal

pub returns-clause-put : goal.returns-clause-put
unfolding register_text
returns-clause-put c = simp (c.append_hex.ensures.put, c.append.ensures.put, ← written_both)
