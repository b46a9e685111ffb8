-- The opcodes that no instruction has, told by one number, and the byte that begins such a pair.
-- Assumes nothing.
use Rattle.std.proofs.Common.{Err}
use mathlib.Core.Path.{◌≡◌, refl, sym, ap, ◌∙◌}
use mathlib.Core.Bool.{true}
use mathlib.Core.List.{List}
use Prim.Native.Nat.{ℕ, ◌/◌, ◌%◌, ◌^◌, ◌<◌}
use native.Mathlib.Omega.{arith}
use lib.Dec.{eqb, ltb}
use lib.ListN.{length, get_or}
use borrow.Author.Tests.{ltb-true}
use Rattle.ground_rules.specs.Bits.{field_of}
use Rattle.instruction_rules.specs.Pairs.{pair_of}
use Rattle.instruction_rules.specs.Reading.{lookup, decode_of}
use Rattle.instruction_rules.specs.declared.Unread.TheVariants.{NoInstruction}
use Rattle.listing_rules.specs.Items.{read_of, item_of}
use Rattle.listing_rules.specs.declared.Item.TheVariants.{Byte}
use Rattle.listing_rules.proofs.ItemLaws.{item-read}
use Rattle.decode.specs.Cells.{cells, cell_of, form_rows}
use Rattle.decode.proofs.CellLaws.{at_places, at_each, by-cell, by_form}

-- the opcodes that no instruction has, a bit for each, held against the decoder's table, all 64 at once
whole-unused : at_places (λ (k cell : ℕ). eqb (0x90080000FFF020FA / 2 ^ k % 2) 1) 0 cells ≡ at_places (λ (k cell : ℕ). ltb cell 16) 0 cells
unfolding cells
whole-unused = refl

pub unused-bit : (second : ℕ) → eqb (0x90080000FFF020FA / 2 ^ field_of second 2 6 % 2) 1 ≡ ltb (cell_of second) 16
unfolding cell_of cells field_of
unused-bit second =
    at_each (λ (k cell : ℕ). eqb (0x90080000FFF020FA / 2 ^ k % 2) 1) (λ (k cell : ℕ). ltb cell 16) cells whole-unused (field_of second 2 6) (omega arith)

-- a pair with such an opcode is none
no-instruction : (first second : ℕ) → ltb (cell_of second) 16 ≡ true → decode_of first second ≡ Err NoInstruction
unfolding decode_of lookup form_rows
no-instruction first second h =
    let low : cell_of second < 16 = ltb-true (cell_of second) 16 h in
    let form : cell_of second / 16 ≡ 0 = omega (arith, low) in
    by-cell first second ∙ by_form (pair_of first second) (cell_of second) 0 form

-- no instruction has the opcode
pub item-unused : (bytes : List ℕ) → (length bytes ≡ 0 → ⊥) → (length bytes ≡ 1 → ⊥) → ltb (cell_of (get_or bytes 1 0)) 16 ≡ true → Byte ≡ item_of bytes
unfolding read_of
item-unused bytes some more h =
    let d = decode_of (get_or bytes 0 0) (get_or bytes 1 0) in
    let e : read_of bytes d ≡ Byte = ap (read_of bytes) (no-instruction (get_or bytes 0 0) (get_or bytes 1 0) h) in
    sym e ∙ item-read bytes some more d refl
