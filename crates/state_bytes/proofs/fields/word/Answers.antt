-- `state_bytes::fields::word` meets its contract.
-- Assumes nothing.
use mathlib.Core.Path.{◌∙◌}
use native.Mathlib.Omega.{arith}
use Rattle.state_rules.specs.Fields.{little_in}
use Rattle.state_bytes.proofs.fields.word.Goals as goal

pub returns : goal.returns
unfolding little_in
returns c = c.word.ensures ∙ rw (c.byte-2.ensures, c.byte.ensures) (omega arith)
