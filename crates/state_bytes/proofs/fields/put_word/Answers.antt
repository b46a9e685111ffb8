-- `state_bytes::fields::put_word` meets its contract.
-- Assumes nothing.
use mathlib.Core.Path.{◌∙◌}
use native.Mathlib.Numerals.{add-one}
use Rattle.state_rules.specs.Fields.{little_end}
use Rattle.state_bytes.proofs.fields.put_word.Goals as goal

pub returns : goal.returns
unfolding little_end
returns c = c.put-2.ensures ∙ rw (c.high_byte.ensures, c.put.ensures, c.low_byte.ensures, add-one)
