-- `notation::pieces::byte_number` meets its contract.
-- Assumes nothing.
use mathlib.Core.Path.{◌∙◌}
use mathlib.Core.List.{[], ◌∷◌}
use lib.Dec.{lit<, lit≤}
use Rattle.listing_rules.specs.Characters.{number_text, hex_digits}
use Rattle.notation.specs.Writing.{held_in}
use Rattle.notation.proofs.PieceLaws.{held-packed}
use native.Mathlib.Omega.{arith}
use Rattle.notation.proofs.pieces.byte_number.Goals as goal

pub returns : goal.returns
unfolding held_in number_text hex_digits
returns c =
    let a = c.glyph-high in
    let b = c.glyph-low in
    held-packed 8 (48 ∷ a.result ∷ b.result ∷ 72 ∷ []) (lit≤ tt) (lit< tt, lit< tt, (omega (arith, a.ensures.lower_bound), omega (arith, a.ensures.lower_bound), (omega (arith, b.ensures.lower_bound), omega (arith, b.ensures.lower_bound), (lit< tt, lit< tt, tt)))) ∙ rw (a.ensures.value, b.ensures.value)
