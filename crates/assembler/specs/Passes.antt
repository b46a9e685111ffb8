-- The three passes over a text, as the code has them.
use Rattle.std.specs.Prelude.{◌≡◌, Bool, not, List, [], ◌∷◌, ℕ, ◌+◌, ◌-◌, ◌*◌, ◌%◌, ◌<◌, Option, Some, None, IfSome, Result, Ok, Err, eqb, ltb, leb, length, take, drop}
use Rattle.ground_rules.specs.Choice.{pick}
use Rattle.assembly_rules.specs.Text.{Token, tokens_of, lines_in}
use Rattle.assembly_rules.specs.Sums.{Label}
use Rattle.assembly_rules.specs.Statements.{headed_by, statement_of, statement_size}
use Rattle.assembly_rules.specs.Assembly.{Said, said_in, Assembled}
use Rattle.assembly_rules.proofs.PassLaws.{Failed}
use Rattle.assembler_text.specs.Places.{leading, labels_at}
use Rattle.assembler_forms.specs.Rows.{left_behind}
use Rattle.assembler_lines.specs.Bodies.{line_refusal_number, span_name, SpanIs, BodyIs}
use Rattle.assembler.specs.declared.lines.LineRead.{LineRead}
use Rattle.assembler.specs.declared.passes.Refused.{Refused}

-- the place of the line feed that ends the line at a place, or the text's end
abbrev pub in_line : ℕ → Bool
in_line c = not (eqb c 10)

unfoldable pub line_stop : List ℕ → ℕ → ℕ
line_stop text at = at + leading in_line (drop at text)

-- what the line at a place says
unfoldable pub said_at : List ℕ → ℕ → Said
said_at text at = let h = headed_by (tokens_of (drop at text)) in record { name = h.name; statement = statement_of h.body }

-- what the lines from a place on say
unfoldable pub said_from : List ℕ → ℕ → List Said
said_from text at = said_in (lines_in (drop at text))

-- so many labels of those that stand in two arrays
abbrev pub labels_in : List ℕ → List ℕ → List ℕ → ℕ → List Label
labels_in text places addresses count = labels_at text (take count places) (take count addresses)

-- the address behind so many bytes
abbrev pub behind : ℕ → ℕ → ℕ
behind first before = (first + before) % 65536

-- the first line that is refused, by the lines before it
abbrev pub FailureIs : {A : Type 0} → Result A Refused → Failed → Type 0
FailureIs (Ok a) is = 0 ≡ is.number
FailureIs (Err r) is = (line_refusal_number r.refusal ≡ is.number) × (r.line + 1 ≡ is.line)

-- the place of the line behind the one at a place, and what the lines from such a place on say
unfoldable pub line_next : List ℕ → ℕ → Option ℕ
line_next text at = pick (ltb (line_stop text at) (length text)) (Some (line_stop text at + 1)) None

abbrev pub said_to : List ℕ → Option ℕ → List Said
said_to text None = []
said_to text (Some at) = said_from text at

-- the line at a place: its label, its statement, its bytes and the lines behind it
pub record LineIs (text : List ℕ) (at : ℕ) (line : LineRead) : Type 0 where
  pub tokens : List Token
  pub says : said_from text at ≡ record { name = span_name text line.label; statement = statement_of tokens } ∷ said_to text (line_next text at)
  pub body : BodyIs text line.said (statement_of tokens)
  pub label : IfSome line.label (SpanIs text)
  pub size : line.size ≡ statement_size (statement_of tokens)
  pub behind : left_behind text (line_next text at) < 1 + (length text - at)

-- a count that four bytes hold
abbrev pub capped_count : ℕ → ℕ
capped_count n = pick (leb n 0xFFFFFFFF) n 0xFFFFFFFF

-- number, and line or bytes stored, in one word
unfoldable pub assembly_word : Assembled → ℕ
assembly_word a = a.number + capped_count (pick (eqb a.number 0) (length a.bytes) a.line) * 4294967296
