-- `script_lines::numbers` meets its contract.
-- Assumes nothing.
use Rattle.page.proofs.PageLaws.{written_both}
use Rattle.script_lines.specs.Lines.{numbers_text}
use Rattle.script_lines.proofs.numbers.Goals as goal

pub returns-clause-put : goal.returns-clause-put
unfolding numbers_text
returns-clause-put c = simp (c.from-7.ensures, c.register-7.ensures.put, c.from-6.ensures, c.register-6.ensures.put, c.joined.ensures, c.from-5.ensures, c.register-5.ensures.put, c.from-4.ensures, c.register-4.ensures.put, c.from-3.ensures, c.register-3.ensures.put, c.from-2.ensures, c.register-2.ensures.put, c.from.ensures, c.register.ensures.put, ← written_both)
