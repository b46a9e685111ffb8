-- `trace_text::step_line` meets its contract.
-- Assumes nothing.
use Rattle.page.proofs.PageLaws.{written_both}
use Rattle.trace_text.specs.Line.{line_of}
use Rattle.trace_text.proofs.step_line.Goals as goal

pub returns-clause-behind : goal.returns-clause-behind
unfolding line_of
returns-clause-behind c =
    simp (c.append-3.ensures.put, c.append_hex.ensures.put, c.append-2.ensures.put, c.append_decimal-2.ensures.put, c.append.ensures.put, c.append_decimal.ensures.put, c.letter.ensures, c.from.ensures, c.channel-c.ensures, c.is_second.ensures, ← written_both)
