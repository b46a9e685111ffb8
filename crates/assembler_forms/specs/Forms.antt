-- Operands by their places in a text, as the code has them.
use Rattle.std.specs.Prelude.{◌≡◌, Bool, true, false, List, [], ℕ, Option, Some, None, eqb, ltb, leb, drop}
use Rattle.ground_rules.specs.Choice.{pick}
use Rattle.assembly_rules.specs.Text.{Token, capitals, tokens_of, before_comma}
use Rattle.assembly_rules.specs.Sums.{is_sum, depth_of}
use Rattle.assembly_rules.specs.Operands.{Written, is_shallow}
use Rattle.assembly_rules.specs.Operands.Written.{register, memory, value, nothing}
use Rattle.assembler_text.specs.declared.tokens.TokenFound.{TokenFound as Found}
use Rattle.assembler_text.specs.declared.tokens.TokenFound.TheVariants.{Run, Mark}
use Rattle.assembler_text.specs.Places.{between, token_at, register_named}
use Rattle.assembler_forms.specs.declared.operands.Named.{Named}
use Rattle.assembler_forms.specs.declared.operands.Sum.{Sum}
use Rattle.assembler_forms.specs.declared.operands.Indexing.{Indexing}
use Rattle.assembler_forms.specs.declared.operands.Indexing.TheVariants.{Plain, Indexed, Stepped}
use Rattle.assembler_forms.specs.declared.operands.Form.{Form}
use Rattle.assembler_forms.specs.declared.operands.Form.TheVariants.{Register, Memory, Offset, Value}

-- the place behind a character by itself
abbrev pub mark_by : ℕ → Option Found → Option ℕ
mark_by c None = None
mark_by c (Some (Run from to)) = None
mark_by c (Some (Mark d next)) = pick (eqb d c) (Some next) None

unfoldable pub past_mark : List ℕ → ℕ → ℕ → Option ℕ
past_mark text at c = mark_by c (token_at text at)

-- whether an operand ends
abbrev pub stops_by : Option Found → Bool
stops_by None = true
stops_by (Some (Run from to)) = false
stops_by (Some (Mark c next)) = eqb c 44

unfoldable pub stops_at : List ℕ → ℕ → Bool
stops_at text at = stops_by (token_at text at)

-- the register at a place
abbrev pub named : Option ℕ → ℕ → Option Named
named (Some number) next = Some (record { number = number; next = next })
named None next = None

abbrev pub register_by : List ℕ → Option Found → Option Named
register_by text None = None
register_by text (Some (Run from to)) = named (register_named (capitals (between text from to))) to
register_by text (Some (Mark c next)) = None

unfoldable pub register_at : List ℕ → ℕ → Option Named
register_at text at = register_by text (token_at text at)

-- MM of a base by its register's number
unfoldable pub base_at : ℕ → Option ℕ
base_at n = pick (ltb n 3) (Some n) (pick (eqb n 8) (Some 3) None)

-- the tokens of the operand at a place
abbrev pub operand_tokens : List ℕ → ℕ → List Token
operand_tokens text at = before_comma (tokens_of (drop at text))

-- the sum that they are
unfoldable pub whole_sum : List ℕ → ℕ → Option Sum
whole_sum text place = pick (is_sum (operand_tokens text place)) (Some (record { place = place; low = leb (depth_of (operand_tokens text place)) 8 })) None

-- AA of a mode
abbrev pub indexing_number : Indexing → ℕ
indexing_number Plain = 0
indexing_number Indexed = 2
indexing_number Stepped = 3

-- the sum that an operand is, or that is its offset
abbrev pub form_sum : Form → Option Sum
form_sum (Register r) = None
form_sum (Memory mm mode) = None
form_sum (Offset mm sum) = Some sum
form_sum (Value sum) = Some sum

-- whether it has an offset
abbrev pub has_offset : Form → Bool
has_offset (Register r) = false
has_offset (Memory mm mode) = false
has_offset (Offset mm sum) = true
has_offset (Value sum) = false

abbrev pub offset_told : Option Form → Bool
offset_told None = false
offset_told (Some f) = has_offset f

-- and whether it has no sum but a low one
abbrev pub sum_low : Option Sum → Bool
sum_low None = true
sum_low (Some sum) = sum.low

abbrev pub low_in : Form → Bool
low_in f = sum_low (form_sum f)

-- an operand as the code has it, with the tokens that it stands for
abbrev pub written_form : List ℕ → Form → Written
written_form text (Register r) = register r
written_form text (Memory mm mode) = memory mm (indexing_number mode) []
written_form text (Offset mm sum) = memory mm 1 (operand_tokens text sum.place)
written_form text (Value sum) = value (operand_tokens text sum.place)

-- an operand that may be none
abbrev pub written_by : List ℕ → Option Form → Written
written_by text None = nothing
written_by text (Some f) = written_form text f

abbrev pub low_by : Option Form → Bool
low_by None = true
low_by (Some f) = low_in f

pub record Formed (text : List ℕ) (f : Option Form) (w : Written) : Type 0 where
  pub same : written_by text f ≡ w
  pub low : low_by f ≡ is_shallow w
