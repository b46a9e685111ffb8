-- `script_lines::loaded_line` meets its contract.
-- Assumes nothing.
use Rattle.page.proofs.PageLaws.{written_both}
use Rattle.script_lines.specs.Lines.{loaded_line}
use Rattle.script_lines.proofs.loaded_line.Goals as goal

pub returns-clause-put : goal.returns-clause-put
unfolding loaded_line
returns-clause-put c = simp (c.append-4.ensures.put, c.from.ensures, c.append_hex.ensures.put, c.append-3.ensures.put, c.append_decimal-2.ensures.put, c.append-2.ensures.put, c.append_decimal.ensures.put, c.append.ensures.put, ← written_both)
