-- `state_bytes::layout::put_numbers` meets its contract.
-- Assumes nothing.
use mathlib.Core.Path.{◌∙◌}
use native.Mathlib.Nat.{add_assoc}
use Rattle.state_rules.specs.Layout.{numbers_bytes}
use Rattle.state_rules.proofs.LengthLaws.{length-little}
use Rattle.state_rules.proofs.SetsLaws.{sets-append}
use Rattle.state_bytes.proofs.layout.put_numbers.Goals as goal

pub returns : goal.returns
unfolding numbers_bytes
returns c = c.put_word-4.ensures ∙ rw (c.put_word-3.ensures, c.put_word-2.ensures, c.put_word.ensures, c.put_long.ensures) (simp (sets-append, length-little, add_assoc))
