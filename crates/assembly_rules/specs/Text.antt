-- The text of an assembly: its lines, and the tokens of a line (§14.1).
use Rattle.std.specs.Prelude.{Bool, false, ◌&&◌, ◌||◌, List, [], ◌∷◌, ℕ, ◌-◌, eqb, leb}
use Rattle.ground_rules.specs.Choice.{pick}

-- small letters count as capitals (§14.1)
unfoldable pub capital_of : ℕ → ℕ
capital_of c = pick (leb 97 c && leb c 122) (c - 32) c

unfoldable pub capitals : List ℕ → List ℕ
capitals [] = []
capitals (c ∷ cs) = capital_of c ∷ capitals cs

unfoldable pub is_digit : ℕ → Bool
is_digit c = leb 48 c && leb c 57

unfoldable pub is_capital : ℕ → Bool
is_capital c = leb 65 c && leb c 90

-- letters, digits and _ make runs (§14.1)
unfoldable pub is_run : ℕ → Bool
is_run c = is_digit c || (is_capital (capital_of c) || eqb c 95)

-- space, tab and CR (§14.1)
unfoldable pub is_blank : ℕ → Bool
is_blank c = eqb c 32 || (eqb c 9 || eqb c 13)

-- LF ends a line, and from ; on it is a comment (§14.1)
unfoldable pub ends_line : ℕ → Bool
ends_line c = eqb c 10 || eqb c 59

-- a token: a run of characters, in capitals, or any other character by itself (§14.1)
pub data Token : Type 0 where
  run : List ℕ → Token
  mark : ℕ → Token

-- what some characters begin with: the run that they go on with, if they do, and the tokens behind it
pub record Begun : Type 0 where
  pub front : List ℕ
  pub rest : List Token

abbrev pub begun : List ℕ → List Token → Begun
begun front rest = record { front = front; rest = rest }

-- a run that there is
abbrev pub run_before : List ℕ → List Token → List Token
run_before [] rest = rest
run_before (c ∷ cs) rest = run (c ∷ cs) ∷ rest

-- all the tokens
abbrev pub all_of : Begun → List Token
all_of b = run_before b.front b.rest

-- a character in front of others
unfoldable pub in_front_of : ℕ → Begun → Begun
in_front_of c b =
    pick (is_run c) (begun (capital_of c ∷ b.front) b.rest)
    (pick (ends_line c) (begun [] [])
    (pick (is_blank c) (begun [] (all_of b)) (begun [] (mark c ∷ all_of b))))

unfoldable pub begun_by : List ℕ → Begun
begun_by [] = begun [] []
begun_by (c ∷ cs) = in_front_of c (begun_by cs)

-- the tokens of the line that some characters begin with
unfoldable pub tokens_of : List ℕ → List Token
tokens_of cs = all_of (begun_by cs)

-- the run that some characters begin with, none where they begin with another character
unfoldable pub leading_run : List ℕ → List ℕ
leading_run cs = (begun_by cs).front

-- a list cut wherever a test holds; what follows the last cut is a part too
abbrev pub ahead : {A : Type 0} → A → List (List A) → List (List A)
ahead a [] = (a ∷ []) ∷ []
ahead a (part ∷ parts) = (a ∷ part) ∷ parts

unfoldable pub cut_at : {A : Type 0} → (A → Bool) → List A → List (List A)
cut_at test [] = [] ∷ []
cut_at test (a ∷ rest) = pick (test a) ([] ∷ cut_at test rest) (ahead a (cut_at test rest))

-- the lines of a text: LF ends each, and what follows the last LF is a line too (§14.1)
unfoldable pub lines_in : List ℕ → List (List ℕ)
lines_in text = cut_at (λ c. eqb c 10) text

-- the tokens before the first comma, and those from it on
abbrev pub is_comma : Token → Bool
is_comma (run r) = false
is_comma (mark c) = eqb c 44

unfoldable pub before_comma : List Token → List Token
before_comma [] = []
before_comma (t ∷ ts) = pick (is_comma t) [] (t ∷ before_comma ts)

unfoldable pub from_comma : List Token → List Token
from_comma [] = []
from_comma (t ∷ ts) = pick (is_comma t) (t ∷ ts) (from_comma ts)
