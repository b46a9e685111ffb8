-- `script_lines::byte` meets its contract.
-- Assumes nothing.
use Rattle.script_lines.specs.Lines.{byte_text}
use Rattle.script_lines.proofs.byte.Goals as goal

pub returns-in-Some-clause-put : goal.returns-in-Some-clause-put
unfolding byte_text
returns-in-Some-clause-put c =
    let found = c.in-Some.ensures.lookup in
    simp (c.register.ensures.put, c.from.ensures, ← found.0, found.3.1 0)

pub returns-in-None-clause-put : goal.returns-in-None-clause-put
unfolding byte_text
returns-in-None-clause-put c = simp (c.append.ensures.put, ← c.in-None.ensures.lookup.0)
