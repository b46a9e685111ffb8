-- The places of an instruction with their operands and what these are worth, as the code has them.
use Rattle.std.specs.Prelude.{Bool, true, false, List, [], ◌∷◌, ◌++◌, ℕ, ◌+◌, ◌*◌, ◌/◌, ◌%◌, Option, Some, None, eqb, ltb, drop, fold, count_by, slice_index_or}
use Rattle.ground_rules.specs.Bytes.{low_byte}
use Rattle.ground_rules.specs.Choice.{pick}
use Rattle.assembly_rules.specs.declared.Worth.{Worth}
use Rattle.assembly_rules.specs.Text.{tokens_of}
use Rattle.assembly_rules.specs.Sums.{Label, worth, sum_worth}
use Rattle.assembly_rules.specs.Operands.{is_memory_kind}
use Rattle.assembly_rules.specs.Statements.{may_stand, is_digit_kind, number_bytes}
use Rattle.assembler_forms.specs.declared.operands.Sum.{Sum}
use Rattle.assembler_forms.specs.declared.operands.Form.{Form}
use Rattle.assembler_forms.specs.declared.operands.Form.TheVariants.{Register, Memory, Offset, Value}
use Rattle.assembler_forms.specs.declared.table.EntryCode.{EntryCode}
use Rattle.assembler_forms.specs.declared.table.PlaceKind.{PlaceKind}
use Rattle.assembler_forms.specs.Forms.{form_sum, indexing_number, offset_told}
use Rattle.assembler_forms.specs.Table.{kind_of}
use Rattle.assembler_bytes.specs.declared.placed.Placed.{Placed}

-- the sum of an operand, and what it is worth
abbrev pub sum_by : Option Form → Option Sum
sum_by None = None
sum_by (Some f) = form_sum f

abbrev pub sum_at : List Label → List ℕ → Option Sum → Worth
sum_at labels text None = worth 0 true
sum_at labels text (Some s) = sum_worth labels (tokens_of (drop s.place text))

abbrev pub worth_by : List Label → List ℕ → Option Form → Worth
worth_by labels text f = sum_at labels text (sum_by f)

-- a place with its operand, and the three of an entry
abbrev pub placed_in : List Label → List ℕ → Option PlaceKind → Option Form → Placed
placed_in labels text k f = record { kind = k; form = f; worth = worth_by labels text f }

abbrev pub all_placed : List Label → List ℕ → List (Option PlaceKind) → List (Option Form) → List Placed
all_placed labels text ks fs =
    placed_in labels text (slice_index_or ks 0 None) (slice_index_or fs 0 None)
    ∷ placed_in labels text (slice_index_or ks 1 None) (slice_index_or fs 1 None)
    ∷ placed_in labels text (slice_index_or ks 2 None) (slice_index_or fs 2 None)
    ∷ []

-- of a place: whether it is for memory, and whether a number may stand there; a place that is none asks for nothing
abbrev pub memory_placed : Option PlaceKind → Bool
memory_placed None = false
memory_placed (Some k) = is_memory_kind (kind_of k)

abbrev pub stand_by : Option PlaceKind → ℕ → ℕ → Bool
stand_by None end n = true
stand_by (Some k) end n = may_stand (kind_of k) end n

-- more than one memory operand
abbrev pub are_moved : List Placed → Bool
are_moved ps = ltb 1 (count_by (λ (p : Placed). memory_placed p.kind) ps)

-- a bit's number or a width
abbrev pub digit_by : Option PlaceKind → Option Form → Bool
digit_by None f = false
digit_by (Some k) None = false
digit_by (Some k) (Some (Register r)) = false
digit_by (Some k) (Some (Memory mm mode)) = false
digit_by (Some k) (Some (Offset mm s)) = false
digit_by (Some k) (Some (Value s)) = is_digit_kind (kind_of k)

-- RRR of a bit's number or of two widths, the second in the next place
abbrev pub digits_after : ℕ → Option Placed → ℕ
digits_after n None = n
digits_after n (Some p) = pick (digit_by p.kind p.form) (4 + pick (eqb n 16) 2 0 + pick (eqb p.worth.value 16) 1 0) n

-- RRR of an operand, or of those behind it
abbrev pub register_placed : ℕ → Option Form → ℕ
register_placed rest None = rest
register_placed rest (Some (Register r)) = r
register_placed rest (Some (Memory mm mode)) = rest
register_placed rest (Some (Offset mm s)) = rest
register_placed rest (Some (Value s)) = rest

abbrev pub rrr_after : Placed → Option Placed → ℕ → ℕ
rrr_after p next rest = pick (digit_by p.kind p.form) (digits_after p.worth.value next) (register_placed rest p.form)

abbrev pub first_form : List Placed → Option Placed
first_form [] = None
first_form (p ∷ ps) = Some p

unfoldable pub rrr_all : ℕ → List Placed → ℕ
rrr_all d [] = d
rrr_all d (p ∷ ps) = rrr_after p (first_form ps) (rrr_all d ps)

-- MM and AA of an operand, or those before it
abbrev pub mm_after : ℕ → Option Form → ℕ
mm_after d None = d
mm_after d (Some (Register r)) = d
mm_after d (Some (Memory mm mode)) = mm
mm_after d (Some (Offset mm s)) = mm
mm_after d (Some (Value s)) = d

abbrev pub aa_after : ℕ → Option Form → ℕ
aa_after d None = d
aa_after d (Some (Register r)) = d
aa_after d (Some (Memory mm mode)) = indexing_number mode
aa_after d (Some (Offset mm s)) = 1
aa_after d (Some (Value s)) = d

-- the bytes of the pair, mod 256
abbrev pub first_byte : EntryCode → List Placed → ℕ
first_byte code ps =
    rrr_all (code.0 / 0x10000 % 16) ps % 8 * 32 + code.0 / 0x1000 % 16 * 8 + fold (λ (d : ℕ) (p : Placed). aa_after d p.form) 0 ps % 128 * 2 + code.0 / 0x100 % 16

abbrev pub second_byte : EntryCode → List Placed → ℕ
second_byte code ps = code.0 % 256 * 4 + fold (λ (d : ℕ) (p : Placed). mm_after d p.form) 0 ps % 256

-- the offset byte of an operand, and the bytes of a number in its place
abbrev pub offset_laid : Placed → List ℕ
offset_laid p = pick (offset_told p.form) (low_byte p.worth.value ∷ []) []

unfoldable pub offsets_laid : List Placed → List ℕ
offsets_laid [] = []
offsets_laid (p ∷ ps) = offset_laid p ++ offsets_laid ps

abbrev pub number_placed : Option PlaceKind → ℕ → ℕ → List ℕ
number_placed None end n = []
number_placed (Some k) end n = number_bytes (kind_of k) end n

abbrev pub number_laid : ℕ → Placed → List ℕ
number_laid end p = number_placed p.kind end p.worth.value

unfoldable pub numbers_laid : ℕ → List Placed → List ℕ
numbers_laid end [] = []
numbers_laid end (p ∷ ps) = number_laid end p ++ numbers_laid end ps

-- the second pair of MOV M,M
abbrev pub second_by : ℕ → Option Form → List ℕ
second_by w None = []
second_by w (Some (Register r)) = []
second_by w (Some (Memory mm mode)) = (indexing_number mode * 2 + w) ∷ (0xCC + mm % 256) ∷ []
second_by w (Some (Offset mm s)) = (2 + w) ∷ (0xCC + mm % 256) ∷ []
second_by w (Some (Value s)) = []

abbrev pub second_laid : ℕ → Placed → List ℕ
second_laid w p = second_by w p.form
