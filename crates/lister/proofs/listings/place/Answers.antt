-- `lister::listings::place` meets its contract. The loop's invariant: so many characters are copied.
-- Assumes nothing.
use mathlib.Core.Path.{◌≡◌, sym, ap, ◌∙◌}
use Prim.Native.Nat.{◌+◌}
use native.Mathlib.Omega.{arith}
use lib.Seq.{paste}
use Rattle.lister.proofs.PasteLaws.{one_more}
use Rattle.lister.proofs.listings.place.Goals as goal

pub returns-then-last-len : goal.returns-then-last-len
returns-then-last-len c =
    let a = c.args in
    let l = c.loop-i in
    let t = c.two_left-last in
    let first = c.four_left-more.ensures.0 a.text.now l.invariant.0 (sym l.invariant.2) in
    let next = t.ensures.0 a.text.now first (sym l.invariant.2 ∙ sym c.four_left-more.auto.text) in
    let e : t.result + 1 ≡ a.line.len = omega (arith, t.ensures.2) in
    one_more a.text.now a.at a.line.chars t.new.text t.result next (omega arith) (omega arith) ∙ ap (paste a.text.now a.at a.line.chars) e
