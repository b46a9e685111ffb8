-- `state_bytes::layout::put_pointers` meets its contract.
-- Assumes nothing.
use mathlib.Core.Path.{◌∙◌}
use native.Mathlib.Nat.{add_assoc}
use Rattle.state_rules.specs.Layout.{pointers_bytes}
use Rattle.state_rules.proofs.LengthLaws.{length-pointer}
use Rattle.state_rules.proofs.SetsLaws.{sets-append}
use Rattle.state_bytes.proofs.layout.put_pointers.Goals as goal

pub returns : goal.returns
unfolding pointers_bytes
returns c = c.put_pointer-4.ensures ∙ rw (c.put_pointer-3.ensures, c.put_pointer-2.ensures, c.put_pointer.ensures) (simp (sets-append, length-pointer, add_assoc))
