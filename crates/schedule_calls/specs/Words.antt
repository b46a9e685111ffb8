-- The words of a report as the code counts in them: what is added to lent words, and what it adds for an attention and for a step.
use mathlib.Core.{Bool.Bool, List.List, List.[], List.◌∷◌}
use Rattle.std.specs.Prelude.{ℕ, ◌+◌, ◌*◌, ◌/◌, ◌%◌, ◌^◌}
use lib.{Dec.eqb, ListN.get_or, ListN.set}
use Rattle.ground_rules.specs.Choice.{pick}
use Rattle.schedule_rules.specs.Counts.{once_if}

-- a number added to one word, where that is lent, as the code adds
unfoldable pub added_at : ℕ → ℕ → List ℕ → List ℕ
added_at at by xs = set xs at ((get_or xs at 0 + by) % 2 ^ 64)

-- such numbers at their places, one after the other
unfoldable pub added_all : List (ℕ × ℕ) → List ℕ → List ℕ
added_all [] xs = xs
added_all (p ∷ ps) xs = added_all ps (added_at p.0 p.1 xs)

-- a report added to lent words, word by word, as far as both go
unfoldable pub added_on : List ℕ → List ℕ → List ℕ
added_on [] xs = xs
added_on (w ∷ ws) [] = []
added_on (w ∷ ws) (x ∷ xs) = ((x + w) % 2 ^ 64) ∷ added_on ws xs

-- what is added for an attention, done or refused: over all, and for its channel
abbrev pub attention_adds : Bool → ℕ → List (ℕ × ℕ)
attention_adds done channel =
    (pick done 0 1, 1) ∷ (pick done 0 1 + 2, once_if (eqb channel 1)) ∷ (pick done 0 1 + 9, once_if (eqb channel 2)) ∷ []

-- what is added for a step: for the channels that wait; then over all, and of a done one for its channel, by its kind, and what it stored
abbrev pub step_adds : Bool → Bool → Bool → Bool → ℕ → ℕ → List (ℕ × ℕ)
step_adds waits₁ waits₂ done second kind stored =
    (8, once_if waits₁)
    ∷ (15, once_if waits₂)
    ∷ pick done
    ((0, 1) ∷ (pick second 9 2 + (3 * kind + 1) / 2, 1) ∷ (pick second 9 2 + 4, pick (eqb kind 2) stored 0) ∷ [])
    ((1, 1) ∷ [])
