-- `lister::listings::two` meets its contract.
-- Assumes nothing.
use mathlib.Core.Path.{ap, ◌∙◌}
use Prim.Native.Nat.{ℕ, ◌+◌}
use native.Mathlib.Nat.{add_assoc}
use native.Mathlib.Omega.{arith}
use lib.ListN.{get_or, set}
use lib.Seq.{paste}
use Rattle.lister.proofs.PasteLaws.{one_more}
use Rattle.lister.proofs.listings.two.Goals as goal

pub returns : goal.returns
returns c = λ t e n.
    let a = c.args in
    let chars = a.chars.now in
    let first = one_more t a.at chars a.text.now a.i e (omega (arith, n, c.requires.0)) (omega (arith, c.requires.2)) in
    let next = one_more t a.at chars _ (a.i + 1) first (omega (arith, n, c.requires.0)) (omega (arith, c.requires.2)) in
    ap (λ (k : ℕ). set (set a.text.now (a.at + a.i) (get_or chars a.i 0)) k (get_or chars (a.i + 1) 0)) (add_assoc a.at a.i 1) ∙ next ∙ ap (paste t a.at chars) (add_assoc a.i 1 1)
