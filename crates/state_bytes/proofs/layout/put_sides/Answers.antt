-- `state_bytes::layout::put_sides` meets its contract.
-- Assumes nothing.
use mathlib.Core.Path.{◌∙◌}
use native.Mathlib.Numerals.{towards_suc}
use Rattle.state_rules.specs.Layout.{sides_bytes}
use Rattle.state_bytes.proofs.layout.put_sides.Goals as goal

pub returns : goal.returns
unfolding sides_bytes
returns c = c.put-5.ensures ∙ rw (c.flag_byte-4.ensures, c.put-4.ensures, c.put-3.ensures, c.flag_byte-3.ensures, c.put-2.ensures, c.flag_byte-2.ensures, c.put.ensures, c.flag_byte.ensures) (simp towards_suc)
