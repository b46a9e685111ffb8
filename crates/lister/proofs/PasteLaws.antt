-- A character more of a line that is being written.
-- Assumes nothing.
use mathlib.Core.Path.{◌≡◌, sym, ap, ◌∙◌}
use mathlib.Core.List.{List}
use Prim.Native.Nat.{ℕ, ◌+◌, ◌<◌}
use native.Mathlib.Numerals.{add-one}
use lib.ListN.{length, get_or, set}
use lib.Seq.{paste, paste-suc}

pub one_more : (t : List ℕ) (at : ℕ) (chars text : List ℕ) (i : ℕ) → text ≡ paste t at chars i → at + i < length t → i < length chars
    → set text (at + i) (get_or chars i 0) ≡ paste t at chars (i + 1)
one_more t at chars text i e room there =
    ap (λ (l : List ℕ). set l (at + i) (get_or chars i 0)) e ∙ paste-suc t at chars i 0 room there ∙ ap (paste t at chars) (sym (add-one i))
