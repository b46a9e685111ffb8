-- `script_lines::count_text` meets its contract.
-- Assumes nothing.
use Rattle.page.proofs.PageLaws.{written_both}
use Rattle.script_lines.specs.Lines.{count_text}
use Rattle.script_lines.proofs.count_text.Goals as goal

pub returns-clause-put : goal.returns-clause-put
unfolding count_text
returns-clause-put c = simp (c.append-2.ensures.put, c.append_decimal.ensures.put, c.append.ensures.put, ← written_both)
