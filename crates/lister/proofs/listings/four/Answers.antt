-- `lister::listings::four` meets its contract.
-- Assumes nothing.
use lib.Seq.{paste}
use mathlib.Core.Path.{sym, ap, ◌∙◌}
use native.Mathlib.Nat.{add_assoc}
use Rattle.lister.proofs.listings.four.Goals as goal

pub returns : goal.returns
returns c = λ t e n.
    let a = c.args in
    c.two-2.ensures t (c.two.ensures t e n) (n ∙ sym c.two.auto.text) ∙ ap (paste t a.at a.chars.now) (add_assoc a.i 2 2)
