-- `state_bytes::fields::put_long` meets its contract.
-- Assumes nothing.
use Prim.Native.Nat.{◌+◌, ◌/◌, ◌%◌}
use lib.Seq.{sets}
use mathlib.Core.Path.{refl, ap, ◌∙◌}
use Rattle.state_rules.specs.Fields.{little_end}
use Rattle.state_rules.proofs.LittleLaws.{halves}
use Rattle.state_rules.proofs.SetsLaws.{sets_then}
use Rattle.state_bytes.proofs.fields.put_long.Goals as goal

pub returns : goal.returns
unfolding little_end
returns c =
    let a = c.args in
    c.put_word-2.ensures
    ∙ rw c.put_word.ensures
    (sets_then (little_end 2 (a.v % 65536)) (little_end 2 (a.v / 65536)) a.bytes.now a.at (a.at + 2) refl
    ∙ ap (sets a.bytes.now a.at) (halves a.v))
