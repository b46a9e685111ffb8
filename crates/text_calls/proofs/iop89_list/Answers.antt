-- `text_calls::iop89_list` meets its contract: the parts of the listing's answer, and that what is lent are bytes.
-- Assumes nothing.
use mathlib.Core.Path.{ap}
use native.Mathlib.Omega.{arith}
use Rattle.listing_rules.specs.Listings.{Listing}
use Rattle.text_calls.proofs.iop89_list.Goals as goal

pub returns : goal.returns
returns c =
    let e = c.list-l.ensures in
    record { value = omega (arith, ap (λ (l : Listing). l.stop) e, ap (λ (l : Listing). l.characters) e); text_after = ap (λ (l : Listing). l.buffer) e; by_index = λ i. omega (arith, c.type_inv.code i) }
