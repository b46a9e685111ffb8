-- How the code holds characters, up to eight in a number and a line in 28 places; what writing into such a line asks, and what it leaves.
use Rattle.std.specs.Prelude.{◌≡◌, List, [], ◌∷◌, ◌++◌, ℕ, zero, suc, ◌+◌, ◌/◌, ◌%◌, ◌≤◌, eqb, length, take}
use Rattle.ground_rules.specs.Choice.{pick}
use Rattle.notation.specs.declared.lines.Line.{Line}
use Rattle.notation.specs.declared.pieces.Pieces.{Pieces}

-- the first `count` characters that a number holds, the first of them in its lowest eight bits; it holds none where it is 0
unfoldable pub held_by : ℕ → ℕ → List ℕ
held_by zero n = []
held_by (suc count) n = pick (eqb n 0) [] (n % 256 ∷ held_by count (n / 256))

-- the characters that a number of 64 bits holds
unfoldable pub held_in : ℕ → List ℕ
held_in n = held_by 8 n

-- the characters of four such numbers, one after the other
unfoldable pub held_in4 : Pieces → List ℕ
held_in4 p = held_in p.0 ++ (held_in p.1 ++ (held_in p.2 ++ held_in p.3))

-- characters from an index on have room in a line
pub record Fits (line : List ℕ) (at : ℕ) (text : List ℕ) : Type 0 where
  pub size : length line ≡ 28
  pub room : at + length text ≤ 28

-- a line with characters behind those before an index, and the index behind them
pub record Wrote (before after : List ℕ) (at next : ℕ) (text : List ℕ) : Type 0 where
  pub size : length after ≡ 28
  pub index : next ≡ at + length text
  pub chars : take next after ≡ take at before ++ text

-- the characters of a line
abbrev pub text_in : Line → List ℕ
text_in l = take l.len l.chars
