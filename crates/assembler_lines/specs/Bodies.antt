-- What the code read of a line, and what the rules say of it.
use Rattle.std.specs.Prelude.{◌≡◌, Bool, true, ◌&&◌, List, [], ◌∷◌, ℕ, ◌≤◌, ◌<◌, Option, Some, None, IfSome, Result, Ok, Err, eqb, length, drop}
use Rattle.ground_rules.specs.Choice.{pick}
use Rattle.listing_rules.specs.Entries.{Entry, entries}
use Rattle.assembly_rules.specs.Text.{capitals, tokens_of}
use Rattle.assembly_rules.specs.Sums.{is_sum}
use Rattle.assembly_rules.specs.Operands.{Written, takes_all, all_shallow}
use Rattle.assembly_rules.specs.Operands.Written.{register, memory, value, nothing}
use Rattle.assembly_rules.specs.Statements.{headed, headed_by, Statement, operand_parts, all_sums, all_low, statement_size}
use Rattle.assembly_rules.specs.Statements.Statement.{blank, items, instruction, refused}
use Rattle.assembler_text.specs.Places.{between, name_at, token_at}
use Rattle.assembler_text.specs.declared.tokens.TokenFound.{TokenFound as Found}
use Rattle.assembler_text.specs.declared.tokens.TokenFound.TheVariants.{Run, Mark}
use Rattle.assembler_forms.specs.declared.operands.Operands.{Operands}
use Rattle.assembler_forms.specs.declared.table.EntryCode.{EntryCode}
use Rattle.assembler_forms.specs.Rows.{FormsAre}
use Rattle.assembler_forms.specs.Table.{coded}
use Rattle.assembler_lines.specs.declared.bodies.NameSpan.{NameSpan}
use Rattle.assembler_lines.specs.declared.bodies.Head.{Head}
use Rattle.assembler_lines.specs.declared.bodies.Body.{Body}
use Rattle.assembler_lines.specs.declared.bodies.Body.TheVariants.{Blank, Items, Instruction}
use Rattle.assembler_lines.specs.declared.bodies.LineRefusal.{LineRefusal}
use Rattle.assembler_lines.specs.declared.bodies.LineRefusal.TheVariants.{UnknownWord, UnknownForm, TooDeep, UnknownName, OutOfRange, NoRoom}

-- the number of a refusal
abbrev pub line_refusal_number : LineRefusal → ℕ
line_refusal_number UnknownWord = 30
line_refusal_number UnknownForm = 31
line_refusal_number TooDeep = 32
line_refusal_number UnknownName = 33
line_refusal_number OutOfRange = 34
line_refusal_number NoRoom = 35

-- the number that a line answers, 0 where none refuses it
abbrev pub line_answered : {A : Type 0} → Result A LineRefusal → ℕ
line_answered (Ok a) = 0
line_answered (Err e) = line_refusal_number e

-- the run at a place
abbrev pub run_by : Option Found → Option NameSpan
run_by None = None
run_by (Some (Run from to)) = Some (record { from = from; to = to })
run_by (Some (Mark c next)) = None

unfoldable pub run_at : List ℕ → ℕ → Option NameSpan
run_at text at = run_by (token_at text at)

-- the name of a label, none where there is no label
abbrev pub span_name : List ℕ → Option NameSpan → List ℕ
span_name text None = []
span_name text (Some s) = capitals (between text s.from s.to)

-- a label that stands in the text as a run of it
pub record SpanIs (text : List ℕ) (s : NameSpan) : Type 0 where
  pub some : s.from < s.to
  pub inside : s.to ≤ length text
  pub name : name_at text s.from ≡ capitals (between text s.from s.to)

-- the front of the line at a place
pub record HeadIs (text : List ℕ) (at : ℕ) (h : Head) : Type 0 where
  pub line : headed_by (tokens_of (drop at text)) ≡ headed (span_name text h.label) (tokens_of (drop h.body text))
  pub label : IfSome h.label (SpanIs text)

-- an entry that is one of some
pub data Among (e : Entry) : List Entry → Type 0 where
  here : {es : List Entry} → Among e (e ∷ es)
  later : {f : Entry} {es : List Entry} → Among e es → Among e (f ∷ es)

-- operands whose numbers and offsets are sums
unfoldable pub are_sums : List Written → Bool
are_sums [] = true
are_sums (register r ∷ ws) = are_sums ws
are_sums (memory mm aa ts ∷ ws) = pick (eqb aa 1) (is_sum ts) true && are_sums ws
are_sums (value ts ∷ ws) = is_sum ts && are_sums ws
are_sums (nothing ∷ ws) = are_sums ws

-- data from a place on
pub record ItemsAre (text : List ℕ) (two : Bool) (place size : ℕ) (s : Statement) : Type 0 where
  pub same : s ≡ items two (operand_parts (tokens_of (drop place text)))
  pub sized : size ≡ statement_size s
  pub sums : all_sums (operand_parts (tokens_of (drop place text))) ≡ true
  pub low : all_low (operand_parts (tokens_of (drop place text))) ≡ true

-- an instruction by its entry and its operands
pub record SaysInstruction (text : List ℕ) (code : EntryCode) (o : Operands) (s : Statement) : Type 0 where
  pub entry : Entry
  pub written : List Written
  pub same : s ≡ instruction entry written
  pub number : code ≡ coded entry
  pub listed : Among entry entries
  pub count : o.count ≡ length written
  pub row : FormsAre text o.forms written
  pub fits : takes_all entry.kinds written ≡ true
  pub sums : are_sums written ≡ true
  pub shallow : all_shallow written ≡ true

-- what stands behind a label, or the number of the refusal that the line itself shows
abbrev pub Says : List ℕ → Body → Statement → Type 0
Says text Blank s = s ≡ blank
Says text (Items two place size) s = ItemsAre text two place size s
Says text (Instruction code o) s = SaysInstruction text code o s

abbrev pub BodyIs : List ℕ → Result Body LineRefusal → Statement → Type 0
BodyIs text (Ok b) s = Says text b s
BodyIs text (Err e) s = (s ≡ refused (line_refusal_number e)) × (line_refusal_number e ≤ 32)
