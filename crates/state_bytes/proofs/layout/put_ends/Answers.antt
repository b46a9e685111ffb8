-- `state_bytes::layout::put_ends` meets its contract.
-- Assumes nothing.
use mathlib.Core.Path.{◌∙◌}
use native.Mathlib.Numerals.{towards_suc}
use Rattle.state_rules.specs.Layout.{ends_bytes}
use Rattle.state_bytes.proofs.layout.put_ends.Goals as goal

pub returns : goal.returns
unfolding ends_bytes
returns c = c.put-5.ensures ∙ rw (c.put-4.ensures, c.put-3.ensures, c.put-2.ensures, c.flag_byte-2.ensures, c.put.ensures, c.flag_byte.ensures) (simp towards_suc)
