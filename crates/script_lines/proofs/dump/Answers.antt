-- `script_lines::dump` meets its contract.
-- Assumes nothing.
use Rattle.page.proofs.PageLaws.{written_both}
use Rattle.script_lines.specs.Lines.{dump_text}
use Rattle.script_lines.proofs.dump.Goals as goal

pub returns-clause-put : goal.returns-clause-put
unfolding dump_text
returns-clause-put c = simp (c.shared_line.ensures.put, c.channel_line-2.ensures.put, c.channel_line.ensures.put, ← written_both)
