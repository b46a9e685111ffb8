-- The fields of CC in bytes: those of a state have their widths, the bytes in their places make up the CC of the fields, and so the test of one number is the test of every field.
-- Assumes nothing.
use Prim.Native.Nat.{ℕ, ◌+◌, ◌*◌, ◌/◌, ◌%◌, ◌<◌}
use borrow.Author.Tests.{ltb-true}
use lib.Dec.{eqb}
use lib.ListN.{length, get_or}
use mathlib.Core.Bool.{true}
use mathlib.Core.List.{List}
use mathlib.Core.Path.{◌≡◌, ap, ap₂, ◌∙◌}
use native.Mathlib.Nat.{add_assoc, add-mul-mod_self_left, mod-eq_of_lt}
use native.Mathlib.Omega.{arith}
use Rattle.ground_rules.proofs.ChoiceLaws.{both_right}
use Rattle.ground_rules.proofs.FieldLaws.{bit-worth, same-by-number}
use Rattle.ground_rules.specs.Cc.{joined, without_lock}
use Rattle.ground_rules.specs.States.{fields_agree}
use Rattle.state_rules.specs.Fields.{little_in, flag_in, is_flag, is_code}
use Rattle.state_rules.specs.Layout.{fields_rows, channel_rows, state_rows, cc_place, fields_place, fields_in, channel_in, is_fields, is_block, is_state, state_length, first_at, second_from}
use Rattle.state_rules.specs.Tables.{are_by}
use Rattle.state_rules.proofs.TableLaws.{EachIs, each-is}

-- ---- where a state has them

block-fields : (b : List ℕ) (at : ℕ) → is_block b at ≡ true → is_fields b (at + fields_place) ≡ true
unfolding is_block
block-fields b at h = (each-is channel_rows b at 0 h).1.1.1.1.1.1.1.1.1.1.1.1.0

-- each part of a state is in its range
each_part : (b : List ℕ) → is_state b ≡ true → EachIs state_rows b 0 0
unfolding is_state
each_part b h = each-is state_rows b 0 0 (both_right (eqb (length b) state_length) (are_by state_rows b 0 0) h)

pub first-fields : (b : List ℕ) → is_state b ≡ true → is_fields b (first_at + fields_place) ≡ true
first-fields b h = block-fields b first_at (each_part b h).1.1.1.1.0

pub second-fields : (b : List ℕ) → is_state b ≡ true → is_fields b (second_from + fields_place) ≡ true
second-fields b h = block-fields b second_from (each_part b h).1.1.1.1.1.0

-- ---- their widths

-- each byte is below the number of values that its field has
abbrev Widths : List ℕ → ℕ → Type 0
Widths b at =
    (get_or b at 0 < 2)
    × (get_or b (at + 1) 0 < 2)
    × (get_or b (at + 2) 0 < 2)
    × (get_or b (at + 3) 0 < 4)
    × (get_or b (at + 4) 0 < 2)
    × (get_or b (at + 5) 0 < 2)
    × (get_or b (at + 6) 0 < 2)
    × (get_or b (at + 7) 0 < 4)
    × (get_or b (at + 8) 0 < 4)
    × (get_or b (at + 9) 0 < 8)

widths : (b : List ℕ) (at : ℕ) → is_fields b at ≡ true → Widths b at
unfolding is_fields is_flag is_code
widths b at f =
    let t = each-is fields_rows b at 0 f in (
      ltb-true (get_or b at 0) 2 t.0,
      ltb-true (get_or b (at + 1) 0) 2 t.1.0,
      ltb-true (get_or b (at + 2) 0) 2 t.1.1.0,
      ltb-true (get_or b (at + 3) 0) 4 t.1.1.1.0,
      ltb-true (get_or b (at + 4) 0) 2 t.1.1.1.1.0,
      ltb-true (get_or b (at + 5) 0) 2 t.1.1.1.1.1.0,
      ltb-true (get_or b (at + 6) 0) 2 t.1.1.1.1.1.1.0,
      ltb-true (get_or b (at + 7) 0) 4 t.1.1.1.1.1.1.1.0,
      ltb-true (get_or b (at + 8) 0) 4 t.1.1.1.1.1.1.1.1.0,
      ltb-true (get_or b (at + 9) 0) 8 t.1.1.1.1.1.1.1.1.1.0,
    )

-- ---- the CC that they make up

-- four bytes as one number
four : (b : List ℕ) (at : ℕ) → little_in 4 b at ≡ get_or b at 0 + 256 * (get_or b (at + 1) 0 + 256 * (get_or b (at + 2) 0 + 256 * get_or b (at + 3) 0))
unfolding little_in
four b at = let e : at + 1 + 1 + 1 ≡ at + 3 = omega arith in let f : at + 1 + 1 ≡ at + 2 = omega arith in rw (e, f) (omega arith)

-- what stands from bit 24 on, below bits that are left out
cut : (low is high values : ℕ) → low < 16777216 → is < values → (low + 16777216 * (is + values * high)) / 16777216 % values ≡ is
cut low is high values l h =
    ap (λ (n : ℕ). n % values) (quotient low (is + values * high) l) ∙ add-mul-mod_self_left is values high ∙ mod-eq_of_lt h
  where
    quotient : (low n : ℕ) → low < 16777216 → (low + 16777216 * n) / 16777216 ≡ n
    quotient low n l = omega arith

-- a product sets them side by side from bit 24 on: those of a transfer's sides
sides-by : (a b c d : ℕ) → a < 2 → b < 2 → c < 2 → d < 4 → (a + 256 * (b + 256 * (c + 256 * d))) * 268960769 / 16777216 % 32 ≡ a * 16 + b * 8 + c * 4 + d
sides-by a b c d p q r t =
    let apart : (a + 256 * (b + 256 * (c + 256 * d))) * 268960769 ≡ a * 525313 + b * 262400 + c * 65536 + 16777216 * (a * 16 + b * 8 + c * 4 + d + 32 * (b * 128 + c * 32832 + d * 8405024)) = omega arith in
    ap (λ (n : ℕ). n / 16777216 % 32) apart ∙ cut (a * 525313 + b * 262400 + c * 65536) (a * 16 + b * 8 + c * 4 + d) (b * 128 + c * 32832 + d * 8405024) 32 (omega arith) (omega arith)

-- and the next four, with the LOCK bit between the first two of them
ends_by : (a b c d : ℕ) → a < 2 → b < 2 → c < 2 → d < 4 → (a + 256 * (b + 256 * (c + 256 * d))) * 537396225 / 16777216 % 64 ≡ a * 32 + b * 8 + c * 4 + d
ends_by a b c d p q r t =
    let apart : (a + 256 * (b + 256 * (c + 256 * d))) * 537396225 ≡ a * 525313 + b * 262400 + c * 65536 + 16777216 * (a * 32 + b * 8 + c * 4 + d + 64 * (b * 128 + c * 32800 + d * 8396816)) = omega arith in
    ap (λ (n : ℕ). n / 16777216 % 64) apart ∙ cut (a * 525313 + b * 262400 + c * 65536) (a * 32 + b * 8 + c * 4 + d) (b * 128 + c * 32800 + d * 8396816) 64 (omega arith) (omega arith)

-- all of them by their worth, the LOCK bit left out
in-places : (a b c d e f g h i j : ℕ) → d < 4 → h < 4 → i < 4 → j < 8 → (a * 16 + b * 8 + c * 4 + d) * 2048 + (e * 32 + f * 8 + g * 4 + h) * 32 + i * 8 + j ≡ a * 32768 + b * 16384 + c * 8192 + d % 4 * 2048 + e * 1024 + f * 256 + g * 128 + h % 4 * 32 + i % 4 * 8 + j % 8
in-places a b c d e f g h i j syn tx tbc tmc = omega arith

-- what two products, the byte of TBC and that of TMC come to
abbrev pub made_of : List ℕ → ℕ → ℕ
made_of b at = little_in 4 b at * 268960769 / 16777216 % 32 * 2048 + little_in 4 b (at + 4) * 537396225 / 16777216 % 64 * 32 + get_or b (at + 8) 0 * 8 + get_or b (at + 9) 0

pub made_up : (b : List ℕ) (at : ℕ) → is_fields b at ≡ true → made_of b at ≡ joined (fields_in b at)
unfolding joined fields_in flag_in
made_up b at f =
    let w = widths b at f in
    let sides = ap (λ (n : ℕ). n * 268960769 / 16777216 % 32) (four b at) ∙ sides-by (get_or b at 0) (get_or b (at + 1) 0) (get_or b (at + 2) 0) (get_or b (at + 3) 0) w.0 w.1 w.2 w.3 in
    let next : little_in 4 b (at + 4) ≡ get_or b (at + 4) 0 + 256 * (get_or b (at + 5) 0 + 256 * (get_or b (at + 6) 0 + 256 * get_or b (at + 7) 0)) = four b (at + 4) ∙ rw (add_assoc at 4 1, add_assoc at 4 2, add_assoc at 4 3) in
    let ends = ap (λ (n : ℕ). n * 537396225 / 16777216 % 64) next ∙ ends_by (get_or b (at + 4) 0) (get_or b (at + 5) 0) (get_or b (at + 6) 0) (get_or b (at + 7) 0) w.4 w.5 w.6 w.7 in
    ap₂ (λ (x y : ℕ). x * 2048 + y * 32 + get_or b (at + 8) 0 * 8 + get_or b (at + 9) 0) sides ends
    ∙ rw (bit-worth (get_or b at 0) 32768 w.0, bit-worth (get_or b (at + 1) 0) 16384 w.1, bit-worth (get_or b (at + 2) 0) 8192 w.2, bit-worth (get_or b (at + 4) 0) 1024 w.4, bit-worth (get_or b (at + 5) 0) 256 w.5, bit-worth (get_or b (at + 6) 0) 128 w.6)
    (in-places (get_or b at 0) (get_or b (at + 1) 0) (get_or b (at + 2) 0) (get_or b (at + 3) 0) (get_or b (at + 4) 0) (get_or b (at + 5) 0) (get_or b (at + 6) 0) (get_or b (at + 7) 0) (get_or b (at + 8) 0) (get_or b (at + 9) 0) w.3 w.7 w.8 w.9)

-- so one number says whether a channel's fields are those of its CC
pub agrees-by : (b : List ℕ) (at : ℕ) → is_fields b (at + fields_place) ≡ true → little_in 2 b (at + cc_place) < 65536 → eqb (joined (fields_in b (at + fields_place))) (without_lock (little_in 2 b (at + cc_place))) ≡ fields_agree (channel_in b at)
unfolding fields_agree channel_in fields_in
agrees-by b at f h =
    let w = widths b (at + fields_place) f in
    same-by-number (fields_in b (at + fields_place)) (little_in 2 b (at + cc_place)) w.3 w.7 w.8 w.9 h
