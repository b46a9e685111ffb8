-- Where the characters of a line end.
use Rattle.std.specs.Prelude.{Bool, true, false, ◌&&◌, List, [], ◌∷◌, ℕ, ◌+◌, ◌-◌, eqb, ltb, length, get_or, drop}
use Rattle.ground_rules.specs.Choice.{pick}
use Rattle.script_text.specs.Text.{until_same}

-- a line from `at` to `end`, where its line feed stands or the text ends: one carriage return just before the line feed is no character of it
unfoldable pub content_end : List ℕ → ℕ → ℕ → ℕ
content_end text at end =
    pick (ltb at end) (pick (ltb end (length text)) (pick (eqb (get_or text (end - 1) 0) 13) (end - 1) end) end) end

-- where the characters of the line that starts at a place end
abbrev pub line_content : List ℕ → ℕ → ℕ
line_content text at = content_end text at (at + until_same 10 (drop at text))

-- the line that starts at a place is `end` and nothing else
unfoldable pub closes_file : List ℕ → ℕ → Bool
closes_file text at =
    pick (eqb (line_content text at - at) 3)
    (eqb (get_or text at 0) 101 && eqb (get_or text (at + 1) 0) 110 && eqb (get_or text (at + 2) 0) 100)
    false

-- where the file ends that goes on at a place with these bytes; `start` says whether a line starts there
unfoldable pub file_from : List ℕ → ℕ → Bool → List ℕ → ℕ
file_from text at start [] = at
file_from text at start (b ∷ rest) =
    pick (pick start (closes_file text at) false) at (file_from text (at + 1) (eqb b 10) rest)

-- where the file ends whose first line starts at a place: at the line that closes it, or with the text
unfoldable pub file_end : List ℕ → ℕ → ℕ
file_end text at = file_from text at true (drop at text)
