-- `state_bytes::layout::put_marks` meets its contract.
-- Assumes nothing.
use Prim.Native.Nat.{suc, ◌+◌}
use mathlib.Core.Path.{◌≡◌, ◌∙◌}
use native.Mathlib.Numerals.{add-one}
use native.Mathlib.Omega.{arith}
use Rattle.state_rules.specs.Layout.{marks_bytes}
use Rattle.state_bytes.proofs.layout.put_marks.Goals as goal

pub returns : goal.returns
unfolding marks_bytes
returns c = c.put-3.ensures ∙ rw (c.flag_byte.ensures, c.put-2.ensures, c.mode_byte.ensures, c.put.ensures) (let e : c.args.at + 2 ≡ suc (suc c.args.at) = omega arith in rw (e, add-one))
