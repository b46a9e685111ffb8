-- The bounds of an answer: its number is at most 23 and its start address has 20 bits, so each part can be taken back out of the word for C.
-- Assumes nothing.
use Prim.Native.Nat.{ℕ, ◌/◌, ◌%◌, ◌<◌, ◌≤◌}
use lib.Dec.{eqb, lit≤, lit<}
use mathlib.Core.Bool.{Bool, true, false}
use mathlib.Core.List.{List, [], ◌∷◌}
use mathlib.Core.Path.{◌≡◌, refl}
use native.Mathlib.Omega.{arith}
use Rattle.ground_rules.specs.Buffers.{Buffers}
use Rattle.ground_rules.specs.Choice.{pick}
use Rattle.prom_rules.specs.File.{File, file, next_line, stores_of, segment_after, start_after, storing, file_of}
use Rattle.prom_rules.specs.Load.{Loading, text_file, load_of, word_for_c}
use Rattle.prom_rules.specs.Records.{record_of, type_of, hex_size, start_of, is_record, sums_to_zero, fits_type, line_refusal}
use Rattle.prom_rules.proofs.LoadLaws.{load-by}

-- a line's number is at most 22
pub line-most : (line : List ℕ) → line_refusal line ≤ 22
unfolding line_refusal
line-most line = go (is_record line) (sums_to_zero (record_of line)) (fits_type (type_of (record_of line)) (hex_size (record_of line)))
  where
    go : (x y z : Bool) → pick x (pick y (pick z 0 22) 21) 20 ≤ 22
    go true true true = lit≤ tt
    go true true false = lit≤ tt
    go true false z = lit≤ tt
    go false y z = lit≤ tt

-- and at least 20, where it is one
pub line-least : (line : List ℕ) → (line_refusal line ≡ 0 → ⊥) → 20 ≤ line_refusal line
unfolding line_refusal
line-least line = go (is_record line) (sums_to_zero (record_of line)) (fits_type (type_of (record_of line)) (hex_size (record_of line)))
  where
    go : (x y z : Bool) → (◌≡◌ {A = ℕ} (pick x (pick y (pick z 0 22) 21) 20) 0 → ⊥) → 20 ≤ pick x (pick y (pick z 0 22) 21) 20
    go true true true ne = absurd (ne refl)
    go true true false ne = lit≤ tt
    go true false z ne = lit≤ tt
    go false y z ne = lit≤ tt

-- a file's at most 23, and its start address has 20 bits
pub file-bounds : (lines : List (List ℕ)) (segment start line : ℕ) → start < 1048576
    → ((file_of lines segment start line).number ≤ 23) × ((file_of lines segment start line).start < 1048576)
unfolding file_of
file-bounds [] segment start line h = (lit≤ tt, lit< tt)
file-bounds (this ∷ lines) segment start line h =
    go (eqb (line_refusal this) 0) (eqb (type_of (record_of this)) 1)
    (file-bounds lines (segment_after (record_of this) segment) (start_after (record_of this) start) (next_line line) (after (record_of this)))
  where
    after : (bytes : List ℕ) → start_after bytes start < 1048576
    after bytes = unfold start_after start_of in given bytes (eqb (type_of bytes) 3)
      where
        given : (bytes : List ℕ) (x : Bool) → pick x (start_of bytes) start < 1048576
        given bytes true = unfold start_of in omega arith
        given bytes false = h

    rest : File
    rest = file_of lines (segment_after (record_of this) segment) (start_after (record_of this) start) (next_line line)

    go : (x y : Bool) → (rest.number ≤ 23) × (rest.start < 1048576)
        → ((pick x (pick y (file 0 0 start []) (storing (stores_of (next_line line) segment (record_of this)) rest)) (file (line_refusal this) (next_line line) 0 [])).number ≤ 23)
        × ((pick x (pick y (file 0 0 start []) (storing (stores_of (next_line line) segment (record_of this)) rest)) (file (line_refusal this) (next_line line) 0 [])).start < 1048576)
    go true true e = (lit≤ tt, h)
    go true false e = e
    go false y e = (omega (arith, line-most this), lit< tt)

module _ (t : List ℕ) (m : Buffers) where
  both : ((load_of t m).number ≤ 23) × ((load_of t m).start < 1048576)
  unfolding text_file
  both =
      let f = file-bounds _ 0 0 0 (lit< tt) in
      load-by t m (λ (r : Loading). (r.number ≤ 23) × (r.start < 1048576))
      (λ h. (lit≤ tt, lit< tt)) (λ h e. (f.0, lit< tt)) (λ h e z. (lit≤ tt, lit< tt)) (λ h e z. (lit≤ tt, f.1))

  pub number-most : (load_of t m).number ≤ 23
  number-most = both.0

  pub start-below : (load_of t m).start < 1048576
  start-below = both.1

  -- the parts of the word for C
  pub number-back : word_for_c (load_of t m) % 256 ≡ (load_of t m).number
  unfolding word_for_c
  number-back = omega (arith, number-most)

  pub start_back : word_for_c (load_of t m) / 256 % 1048576 ≡ (load_of t m).start
  unfolding word_for_c
  start_back = omega (arith, number-most, start-below)

  pub line-back : word_for_c (load_of t m) / 4294967296 ≡ (load_of t m).line
  unfolding word_for_c
  line-back = omega (arith, number-most, start-below)
