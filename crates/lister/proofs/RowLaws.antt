-- The row of what stands at a place: its bytes lie in the part, and its characters are the line's.
-- Assumes nothing.
use mathlib.Core.Path.{◌≡◌, refl, sym, ap, ◌∙◌}
use mathlib.Core.Bool.{true, false}
use mathlib.Core.List.{List, [], ◌∷◌}
use Prim.Native.Nat.{ℕ, ◌+◌, ◌-◌, ◌%◌, ◌≤◌}
use native.Mathlib.Omega.{arith}
use lib.ListN.{length, take, drop, length-take, length-drop}
use lib.Seq.{take_all}
use borrow.Author.Tests.{eqb-false}
use Rattle.instruction_rules.specs.declared.Memory.{Memory}
use Rattle.instruction_rules.specs.declared.Shape.{Shape}
use Rattle.listing_rules.specs.Mnemonics.{is_listed}
use Rattle.listing_rules.specs.Forms.{slots_of, filled, target_of, reach_from, word_bytes}
use Rattle.listing_rules.specs.Forms.Operand.{number}
use Rattle.listing_rules.specs.Lines.{line_with, instruction_line, data_line}
use Rattle.listing_rules.specs.Items.{item_of, count_of}
use Rattle.listing_rules.specs.Listings.{chars_of, line_at}
use Rattle.listing_rules.specs.declared.Item.{Item}
use Rattle.listing_rules.specs.declared.Item.TheVariants.{Whole, Byte, End}
use Rattle.listing_rules.specs.declared.Slot.{Slot}
use Rattle.listing_rules.specs.declared.Slot.TheVariants.{Empty, Name, Place, Number, Target, Digit}
use Rattle.listing_rules.proofs.LineLaws.{line-short, data-short}
use Rattle.listing_rules.proofs.RowLaws.{whole-at, call-size}
use Rattle.notation.specs.Writing.{text_in}
use Rattle.lister.specs.Rows.{Shown}
use Rattle.lister.specs.declared.listings.ListedRow.{ListedRow}

-- a part from a place to the end
pub rest_all : (code : List ℕ) (at : ℕ) → take (length code - at) (drop at code) ≡ drop at code
rest_all code at = take_all (length code - at) (drop at code) (omega (arith, length-drop at code))

-- a byte at which nothing starts is there
byte-there : (bytes : List ℕ) → item_of bytes ≡ Byte → 1 ≤ length bytes
unfolding item_of
byte-there [] e = let z : ◌≡◌ {A = ℕ} 0 1 = cc in absurd (eqb-false 0 1 refl z)
byte-there (b ∷ bytes) e = omega arith

module _ (part : List ℕ) (at : ℕ) (i : Item) (item : i ≡ item_of (drop at part)) where
  -- the bytes of a row lie in the part
  pub cut-there : {s : Shape} {to : Memory} {n : ℕ} → i ≡ Whole s to n → n ≤ length (drop at part)
  cut-there {s} {to} {n} e = (whole-at (drop at part) s to n (sym item ∙ e)).there

  pub cut-whole : {s : Shape} {to : Memory} {n : ℕ} → i ≡ Whole s to n → n ≡ length (take n (take (length part - at) (drop at part)))
  cut-whole {s} {to} {n} e = rw (rest_all part at) (omega (arith, length-take n (drop at part), cut-there e))

  pub cut-one : i ≡ Byte → 1 ≤ length (drop at part)
  cut-one e = byte-there (drop at part) (sym item ∙ e)

  pub cut-byte : i ≡ Byte → 1 ≡ length (take 1 (take (length part - at) (drop at part)))
  cut-byte e = rw (rest_all part at) (omega (arith, length-take 1 (drop at part), cut-one e))

-- addresses count mod 65,536
filled-mod : (bytes : List ℕ) (x y : ℕ) (a : Slot) → x % 65536 ≡ y % 65536 → filled bytes x a ≡ filled bytes y a
unfolding filled target_of
filled-mod bytes x y Empty e = refl
filled-mod bytes x y (Name r) e = refl
filled-mod bytes x y (Place m at) e = refl
filled-mod bytes x y (Number at two) e = refl
filled-mod bytes x y (Target at two) e =
    let d = reach_from bytes at two in
    let t : (x + d) % 65536 ≡ (y + d) % 65536 = omega arith in
    ap (λ (k : ℕ). number (word_bytes k)) t
filled-mod bytes x y (Digit n) e = refl

pub line-mod : (bytes : List ℕ) (x y : ℕ) (s : Shape) (to : Memory) → x % 65536 ≡ y % 65536 → instruction_line bytes x s to ≡ instruction_line bytes y s to
unfolding instruction_line line_with
line-mod bytes x y s to e =
    let p = slots_of s to in
    rw (filled-mod bytes x y p.first e, filled-mod bytes x y p.second e, filled-mod bytes x y p.third e)

module _ (row : ListedRow) (address : ℕ) (bytes : List ℕ) (i : Item) (item : i ≡ item_of bytes) (size : row.line.len ≡ length (text_in row.line)) where
  -- the row of an instruction
  pub shown-line : (s : Shape) (to : Memory) (n end : ℕ) → i ≡ Whole s to n → is_listed s ≡ true → end % 65536 ≡ (address + n) % 65536 → text_in row.line ≡ instruction_line bytes end s to → row.count ≡ n → Shown row address bytes
  unfolding line_at chars_of
  shown-line s to n end whole listed near text count =
      let w : item_of bytes ≡ Whole s to n = sym item ∙ whole in
      record {
        chars = text ∙ line-mod bytes end (address + n) s to near ∙ rw (w, listed);
        size = size;
        short = omega (arith, size, ap length text, line-short bytes end s to);
        count = count ∙ rw w;
      }

  module _ (n : ℕ) (datum : chars_of address bytes (item_of bytes) ≡ data_line (take n bytes)) (few : n ≤ 5) (text : text_in row.line ≡ data_line (take 5 (take n bytes))) (count : row.count ≡ count_of (item_of bytes)) where
    -- the row of bytes that are none
    shown-data : Shown row address bytes
    unfolding line_at
    shown-data =
        let fits : length (take n bytes) ≤ 5 = omega (arith, length-take n bytes) in
        let all : take 5 (take n bytes) ≡ take n bytes = take_all 5 (take n bytes) fits in
        let e : text_in row.line ≡ data_line (take n bytes) = text ∙ ap data_line all in
        record { chars = e ∙ sym datum; size = size; short = omega (arith, size, ap length e, data-short (take n bytes) fits); count = count }

  -- CALL with W 0
  pub shown-call : (s : Shape) (to : Memory) (n : ℕ) → i ≡ Whole s to n → is_listed s ≡ false → text_in row.line ≡ data_line (take 5 (take n bytes)) → row.count ≡ n → Shown row address bytes
  unfolding chars_of
  shown-call s to n whole listed text count =
      let w : item_of bytes ≡ Whole s to n = sym item ∙ whole in
      let at = whole-at bytes s to n w in
      shown-data n (rw (w, listed)) (omega (arith, at.size, call-size bytes s to listed at.second)) text (count ∙ rw w)

  -- a byte at which no instruction starts
  pub shown-byte : i ≡ Byte → text_in row.line ≡ data_line (take 5 (take 1 bytes)) → row.count ≡ 1 → Shown row address bytes
  unfolding chars_of
  shown-byte none text count =
      let w : item_of bytes ≡ Byte = sym item ∙ none in
      shown-data 1 (rw w) (omega arith) text (count ∙ rw w)

  -- nothing
  pub shown-end : i ≡ End → text_in row.line ≡ data_line (take 5 (take 0 bytes)) → row.count ≡ 0 → Shown row address bytes
  unfolding chars_of
  shown-end none text count =
      let w : item_of bytes ≡ End = sym item ∙ none in
      shown-data 0 (rw w) (omega arith) text (count ∙ rw w)
