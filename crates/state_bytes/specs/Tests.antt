-- The tests of a state's bytes in the code's order: those of one kind together.
use Rattle.std.specs.Prelude.{Bool, true, ◌&&◌, List, [], ◌∷◌, ◌++◌, ℕ, ◌+◌, eqb}
use Rattle.ground_rules.specs.Choice.{pick}
use Rattle.state_rules.specs.Layout.{pointers_rows, numbers_rows, marks_rows, fields_rows}
use Rattle.state_rules.specs.Tables.{TableRow, width_by, place_from, are_by}

-- each part of a table whose byte has so many values is in its range
abbrev pub values_by : {A : Type 0} → ℕ → List (TableRow A) → List ℕ → ℕ → ℕ → Bool
values_by values [] b at k = true
values_by values (r ∷ rs) b at k =
    pick (eqb r.form.values values) (r.form.is b (place_from at k) && values_by values rs b at (k + r.form.width)) (values_by values rs b at (k + r.form.width))

-- the tags and the armed mark of a block are truth values
unfoldable pub tags_fit : List ℕ → ℕ → Bool
tags_fit b at = are_by pointers_rows b at 0 && values_by 2 marks_rows b at (width_by (pointers_rows ++ numbers_rows))

-- so are the flags of CC
unfoldable pub flags_fit : List ℕ → ℕ → Bool
flags_fit b at = values_by 2 fields_rows b at 0

-- SYN, TX and TBC have two bits
unfoldable pub codes_fit : List ℕ → ℕ → Bool
codes_fit b at = values_by 4 fields_rows b at 0
