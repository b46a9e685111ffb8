-- How many bytes a line has, as the code counts them.
-- Assumes nothing.
use mathlib.Core.Path.{◌≡◌, refl, sym, ap, ◌∙◌}
use mathlib.Core.Bool.{Bool, true, cond}
use mathlib.Core.List.{List, [], ◌∷◌}
use Prim.Native.Nat.{ℕ, ◌+◌}
use native.Mathlib.Omega.{arith}
use lib.Dec.{eqb}
use borrow.Author.Tests.{eqb-true}
use Rattle.listing_rules.specs.Entries.{Entry, entries}
use Rattle.assembly_rules.specs.Operands.{Written}
use Rattle.assembly_rules.specs.Statements.{Statement, offsets_size, kinds_size, memories_in, pairs_size, statement_size}
use Rattle.assembly_rules.specs.Statements.Statement.{blank, refused}
use Rattle.std.specs.Prelude.{Option, Some, count_by}
use Rattle.assembler_forms.specs.declared.operands.Form.{Form}
use Rattle.assembler_forms.specs.declared.operands.Form.TheVariants.{Register, Memory, Offset, Value}
use Rattle.assembler_forms.specs.declared.operands.Indexing.TheVariants.{Plain, Indexed, Stepped}
use Rattle.assembler_forms.specs.declared.operands.Operands.{Operands}
use Rattle.assembler_forms.specs.declared.table.EntryCode.{EntryCode}
use Rattle.assembler_forms.specs.Forms.{Formed, written_form, has_offset, offset_told}
use Rattle.assembler_forms.specs.Rows.{FormsAre}
use Rattle.assembler_forms.specs.Rows.FormsAre.{none, one, two, three}
use Rattle.assembler_forms.specs.Table.{kinds_code, entry_code, coded}
use Rattle.assembler_forms.proofs.EntryLaws.{each_entry}
use Rattle.assembler_lines.specs.Bodies.{SaysInstruction}
use Rattle.assembler_lines.specs.Counts.{entry_size}
use Rattle.assembler_lines.proofs.BodyLaws.{among-passes}

-- an entry whose bytes are those of its places
sized_entry : Entry → Bool
sized_entry e = eqb (entry_size (coded e)) (pairs_size e.kinds + kinds_size e.kinds)

entries-sized : each_entry sized_entry entries ≡ true
unfolding each_entry sized_entry entries entry_code kinds_code kinds_size memories_in
entries-sized = refl

-- the offsets of operands in a row
offset-form : (text : List ℕ) (f : Form) (w : Written) (ws : List Written) → Formed text (Some f) w → offsets_size (w ∷ ws) ≡ cond (has_offset f) 1 0 + offsets_size ws
unfolding offsets_size
offset-form text f w ws h = ap (λ (x : Written). offsets_size (x ∷ ws)) (sym h.same) ∙ go f
  where
    go : (f : Form) → offsets_size (written_form text f ∷ ws) ≡ cond (has_offset f) 1 0 + offsets_size ws
    go (Register r) = omega arith
    go (Memory mm Plain) = refl
    go (Offset mm s) = refl
    go (Memory mm Indexed) = refl
    go (Memory mm Stepped) = refl
    go (Value s) = omega arith

no-offsets : offsets_size [] ≡ 0
unfolding offsets_size
no-offsets = refl

row-offsets : (text : List ℕ) (fs : List (Option Form)) (ws : List Written) → FormsAre text fs ws → count_by offset_told fs ≡ offsets_size ws
row-offsets text fs ws none = sym no-offsets
row-offsets text fs ws (one {f = f} {u = u} h) = omega (arith, offset-form text f u [] h, no-offsets)
row-offsets text fs ws (two {f = f} {g = g} {u = u} {v = v} h i) = omega (arith, offset-form text f u (v ∷ []) h, offset-form text g v [] i, no-offsets)
row-offsets text fs ws (three {f = f} {g = g} {h = o} {u = u} {v = v} {w = w} h i j) = omega (arith, offset-form text f u (v ∷ w ∷ []) h, offset-form text g v (w ∷ []) i, offset-form text o w [] j, no-offsets)

-- the bytes of a line
pub size-blank : (s : Statement) → s ≡ blank → 0 ≡ statement_size s
unfolding statement_size
size-blank s e = sym (ap statement_size e)

pub size-refused : (n : ℕ) (s : Statement) → s ≡ refused n → 0 ≡ statement_size s
unfolding statement_size
size-refused n s e = sym (ap statement_size e)

pub size-instruction : (text : List ℕ) (code : EntryCode) (o : Operands) (s : Statement) → SaysInstruction text code o s → entry_size code + count_by offset_told o.forms ≡ statement_size s
unfolding statement_size sized_entry
size-instruction text code o s i =
    let e = i.entry in
    let ws = i.written in
    let fixed = eqb-true (entry_size (coded e)) (pairs_size e.kinds + kinds_size e.kinds) (among-passes sized_entry e entries-sized i.listed) in
    let row = row-offsets text o.forms ws i.row in
    let all : entry_size (coded e) + count_by offset_told o.forms ≡ pairs_size e.kinds + (offsets_size ws + kinds_size e.kinds) = omega (arith, fixed, row) in
    ap (λ (x : EntryCode). entry_size x + count_by offset_told o.forms) i.number ∙ all ∙ sym (ap statement_size i.same)
