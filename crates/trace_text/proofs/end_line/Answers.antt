-- `trace_text::end_line` meets its contract.
-- Assumes nothing.
use Rattle.page.proofs.PageLaws.{written_both}
use Rattle.trace_text.specs.Line.{end_line}
use Rattle.trace_text.proofs.end_line.Goals as goal

pub returns-clause-behind : goal.returns-clause-behind
unfolding end_line
returns-clause-behind c =
    simp (c.append-3.ensures.put, c.append_decimal-2.ensures.put, c.append-2.ensures.put, c.append_decimal.ensures.put, c.append.ensures.put, c.number.ensures, ← written_both)
