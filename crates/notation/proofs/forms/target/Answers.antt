-- `notation::forms::target` meets its contract.
-- Assumes nothing.
use mathlib.Core.Path.{◌≡◌, ◌∙◌}
use Prim.Native.Nat.{◌+◌, ◌%◌}
use native.Mathlib.Omega.{arith}
use Rattle.listing_rules.specs.Forms.{target_of}
use Rattle.notation.proofs.forms.target.Goals as goal

pub returns : goal.returns
unfolding target_of
returns c =
    let r = c.reach-d in
    let end = c.args.end in
    let e : (end % 65536 + r.result % 65536) % 65536 ≡ (end + r.result) % 65536 = omega arith in
    c.word_number.ensures ∙ rw (e, r.ensures)
