-- `notation::pieces::word_number` meets its contract.
-- Assumes nothing.
use mathlib.Core.Path.{◌∙◌}
use mathlib.Core.List.{[], ◌∷◌}
use lib.Dec.{lit<, lit≤}
use Rattle.listing_rules.specs.Characters.{number_text, hex_digits}
use Rattle.notation.specs.Writing.{held_in}
use Rattle.notation.proofs.PieceLaws.{held-packed}
use native.Mathlib.Omega.{arith}
use Rattle.notation.proofs.pieces.word_number.Goals as goal

pub returns : goal.returns
unfolding held_in number_text hex_digits
returns c =
    let d3 = c.glyph-d3 in
    let d2 = c.glyph-d2 in
    let d1 = c.glyph-d1 in
    let d0 = c.glyph-d0 in
    held-packed 8 (48 ∷ d3.result ∷ d2.result ∷ d1.result ∷ d0.result ∷ 72 ∷ []) (lit≤ tt) (lit< tt, lit< tt, (omega (arith, d3.ensures.lower_bound), omega (arith, d3.ensures.lower_bound), (omega (arith, d2.ensures.lower_bound), omega (arith, d2.ensures.lower_bound), (omega (arith, d1.ensures.lower_bound), omega (arith, d1.ensures.lower_bound), (omega (arith, d0.ensures.lower_bound), omega (arith, d0.ensures.lower_bound), (lit< tt, lit< tt, tt)))))) ∙ rw (d3.ensures.value, d2.ensures.value, d1.ensures.value, d0.ensures.value)
