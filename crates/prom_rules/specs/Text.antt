-- The lines of a text: each ends in LF or in CR LF, the last one also with the text (§12.1).
use Rattle.std.specs.Prelude.{ℕ, eqb, Bool, false, ◌&&◌, List, [], ◌∷◌}
use Rattle.ground_rules.specs.Choice.{pick}

-- whether a text begins with LF
unfoldable pub begins_lf : List ℕ → Bool
begins_lf [] = false
begins_lf (b ∷ bs) = eqb b 10

-- a byte in front of the first of some lines
unfoldable pub in_front : ℕ → List (List ℕ) → List (List ℕ)
in_front b [] = (b ∷ []) ∷ []
in_front b (line ∷ lines) = (b ∷ line) ∷ lines

-- the lines of a text: an LF ends a line, a CR right before it belongs to that end, any other byte is the line's (§12.1)
unfoldable pub hex_lines : List ℕ → List (List ℕ)
hex_lines [] = []
hex_lines (b ∷ bs) =
    let rest = hex_lines bs in
    pick (eqb b 10) ([] ∷ rest) (pick (eqb b 13 && begins_lf bs) rest (in_front b rest))
