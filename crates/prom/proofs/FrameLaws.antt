-- The laws of a frame: when a text begins with one, and what it says of the text's first line.
-- Assumes nothing.
use Prim.Native.Nat.{ℕ, ◌+◌, ◌*◌, ◌%◌, ◌<◌, ◌≤◌}
use borrow.Author.Tests.{eq-eqb, ne_eqb, eqb-true, lt-ltb}
use lib.Dec.{eqb, ltb}
use lib.ListN.{length, get_or, take, drop, length-append, length-take, length-drop, get_or-append}
use lib.Seq.{take-append-le, take_all}
use mathlib.Core.Bool.{Bool, true, false, ◌&&◌}
use mathlib.Core.List.{List, [], ◌∷◌, ◌++◌}
use mathlib.Core.Path.{◌≡◌, refl, sym, ap, ap₂, subst, ◌∙◌}
use native.Mathlib.Omega.{arith}
use Rattle.std.proofs.Common.{take-append-drop}
use Rattle.std.specs.Prelude.{Option, Some, None}
use Rattle.ground_rules.proofs.ChoiceLaws.{both_left, both_right}
use Rattle.ground_rules.specs.Choice.{pick}
use Rattle.prom_rules.specs.Records.{hex_value, all_hex, hex_byte, hex_bytes, hex_size, type_of, is_record, sums_to_zero, fits_type, sum_of, line_refusal}
use Rattle.prom_rules.specs.Text.{hex_lines}
use Rattle.prom_rules.proofs.DigitLaws.{byte_at, digit-below}
use Rattle.prom_rules.proofs.RecordLaws.{not-record, good}
use Rattle.prom.specs.Parts.{first_of, first_line, ends_here, end_length, byte_in}
use Rattle.prom.proofs.LineLaws.{others_of, rest_of, ends-here, goes_on, plain, first-line, hex-line}

-- what makes a line with a colon a record
record Shown (l : List ℕ) : Type 0 where
  pub hex : all_hex l ≡ true
  pub count : length l ≡ 2 * (hex_size (hex_bytes l) + 5)

shown : (l : List ℕ) → is_record (58 ∷ l) ≡ true → Shown l
unfolding is_record
shown l e =
    let same = eqb (length l) (2 * (hex_size (hex_bytes l) + 5)) in
    record { hex = both_left (all_hex l) same e; count = eqb-true (length l) (2 * (hex_size (hex_bytes l) + 5)) (both_right (all_hex l) same e) }

-- a frame with another digit than a hexadecimal one is no record
pub no-digits : (ds : List ℕ) → all_hex ds ≡ false → line_refusal (58 ∷ ds) ≡ 20
unfolding is_record
no-digits ds h = not-record (58 ∷ ds) (rw h)

-- digits as many as they say: the check byte, then the type
pub digits-judged : (ds : List ℕ) → all_hex ds ≡ true → length ds ≡ 2 * (hex_size (hex_bytes ds) + 5)
    → line_refusal (58 ∷ ds) ≡ pick (eqb (sum_of (hex_bytes ds) % 256) 0) (pick (fits_type (type_of (hex_bytes ds)) (hex_size (hex_bytes ds))) 0 22) 21
unfolding line_refusal is_record sums_to_zero
digits-judged ds h long = rw (h, eq-eqb (length ds) (2 * (hex_size (hex_bytes ds) + 5)) long)

-- ---- a text that begins with a colon

module _ (r : List ℕ) where
  colon-line : hex_lines (58 ∷ r) ≡ (58 ∷ first_line r) ∷ others_of (hex_lines r)
  colon-line = goes_on 58 r (plain 58 r refl refl)

  -- its first line, where that is a record
  line-shown : is_record (first_line (58 ∷ r)) ≡ true → Shown (first_line r)
  line-shown e = shown (first_line r) (subst (λ (ls : List (List ℕ)). is_record (first_of ls) ≡ true) colon-line e)

  -- a byte of the line is one of the text
  line_at : (i : ℕ) → i < length (first_line r) → get_or (first_line r) i 0 ≡ get_or r i 0
  line_at i h = sym (get_or-append (first_line r) (rest_of r) 0 i h) ∙ ap (λ (l : List ℕ). get_or l i 0) (sym (first-line r).0)

  line-size : Shown (first_line r) → hex_size (hex_bytes (first_line r)) ≡ hex_byte (get_or r 0 0) (get_or r 1 0)
  unfolding hex_size
  line-size s = byte_at (first_line r) 0 0 refl (omega (arith, s.count)) ∙ ap₂ hex_byte (line_at 0 (omega (arith, s.count))) (line_at 1 (omega (arith, s.count)))

  -- the text then begins with digits, as many as the first two say, and a line end
  line-framed : is_record (first_line (58 ∷ r)) ≡ true → (n : ℕ) → n ≡ (hex_byte (get_or r 0 0) (get_or r 1 0) + 5) * 2 → (n ≤ length r) × (ends_here (drop n r) ≡ true) × (all_hex (take n r) ≡ true)
  line-framed e n q =
      let l = first_line r in
      let s = line-shown e in
      let f = first-line r in
      let k : n ≡ length l = omega (arith, s.count, line-size s, q) in
      let taken : take (length l) r ≡ l = ap (take (length l)) f.0 ∙ take-append-le (length l) l (rest_of r) (omega arith) ∙ take_all (length l) l (omega arith) in
      rw k (omega (arith, ap length f.0 ∙ length-append l (rest_of r)), f.1, rw taken s.hex)

  -- else it has 20
  no-line : (is_record (first_line (58 ∷ r)) ≡ true → ⊥) → line_refusal (first_line (58 ∷ r)) ≡ 20
  no-line ne = go (is_record (first_line (58 ∷ r))) refl
    where
      go : (x : Bool) → is_record (first_line (58 ∷ r)) ≡ x → line_refusal (first_line (58 ∷ r)) ≡ 20
      go true e = absurd (ne e)
      go false e = not-record (first_line (58 ∷ r)) e

  -- as where its first two bytes are no digits
  pub no-size : byte_in r 0 ≡ None → line_refusal (first_line (58 ∷ r)) ≡ 20
  unfolding byte_in
  no-size none = no-line (λ e.
      let s = line-shown e in
      let a = rw (line_at 0 (omega (arith, s.count))) at (digit-below (first_line r) 0 s.hex (omega (arith, s.count))) in
      let b = rw (line_at 1 (omega (arith, s.count))) at (digit-below (first_line r) 1 s.hex (omega (arith, s.count))) in
      let some = rw (lt-ltb (hex_value (get_or r 0 0)) 16 a, lt-ltb (hex_value (get_or r 1 0)) 16 b) at none in
      absurd (let z : ◌≡◌ {A = Option ℕ} (Some (hex_byte (get_or r 0 0) (get_or r 1 0))) None = some in cc))

  module _ (size : ℕ) (says : byte_in r 0 ≡ Some size) where
    said : size ≡ hex_byte (get_or r 0 0) (get_or r 1 0)
    unfolding byte_in
    said = go (ltb (hex_value (get_or r 0 0)) 16 && ltb (hex_value (get_or r 1 0)) 16) says
      where
        go : (x : Bool) → pick x (Some (hex_byte (get_or r 0 0) (get_or r 1 0))) None ≡ Some size → size ≡ hex_byte (get_or r 0 0) (get_or r 1 0)
        go true e = let some : ◌≡◌ {A = Option ℕ} (Some (hex_byte (get_or r 0 0) (get_or r 1 0))) (Some size) = e in cc
        go false e = let none : ◌≡◌ {A = Option ℕ} None (Some size) = e in cc

    -- where it is shorter than they say
    pub too-short : length r < (size + 5) * 2 → line_refusal (first_line (58 ∷ r)) ≡ 20
    too-short h = no-line (λ e. omega (arith, (line-framed e ((size + 5) * 2) (omega (arith, said))).0))

    module _ (n : ℕ) (q : n ≡ (size + 5) * 2) where
      -- where no line end stands behind so many
      pub not-ended : ends_here (drop n r) ≡ false → line_refusal (first_line (58 ∷ r)) ≡ 20
      not-ended h = no-line (λ e. apart-of (sym h ∙ (line-framed e n (omega (arith, q, said))).1))
        where
          apart-of : false ≡ true → ⊥
          apart-of z = cc

      module _ (room : n ≤ length r) (ended : ends_here (drop n r) ≡ true) where
        parts : r ≡ take n r ++ drop n r
        parts = sym (take-append-drop n r)

        -- digits and a line end: that is the first line
        line-is : all_hex (take n r) ≡ true → hex_lines (58 ∷ r) ≡ (58 ∷ take n r) ∷ hex_lines (drop (end_length (drop n r)) (drop n r))
        line-is h =
            let k = hex-line (take n r) (drop n r) h ended in
            colon-line
            ∙ ap₂ (λ (l : List ℕ) (ls : List (List ℕ)). (58 ∷ l) ∷ ls) (ap first_line parts ∙ k.0) (ap (λ (l : List ℕ). others_of (hex_lines l)) parts ∙ k.1)

        -- the number of the frame is that of the line
        pub same-number : line_refusal (first_line (58 ∷ r)) ≡ line_refusal (58 ∷ take n r)
        same-number = go (all_hex (take n r)) refl
          where
            go : (x : Bool) → all_hex (take n r) ≡ x → line_refusal (first_line (58 ∷ r)) ≡ line_refusal (58 ∷ take n r)
            go true h = ap (λ (ls : List (List ℕ)). line_refusal (first_of ls)) (line-is h)
            go false h = no-line (λ e. let z = sym h ∙ (line-framed e n (omega (arith, q, said))).2 in cc) ∙ sym (no-digits (take n r) h)

        -- and where it is good, it is the line
        pub good-lines : line_refusal (58 ∷ take n r) ≡ 0 → hex_lines (58 ∷ r) ≡ (58 ∷ take n r) ∷ hex_lines (drop (end_length (drop n r)) (drop n r))
        good-lines e = line-is (good (58 ∷ take n r) e).digits

        pub frame-long : length (take n r) ≡ 2 * (hex_size (hex_bytes (take n r)) + 5)
        unfolding hex_size
        frame-long =
            let t = take n r in
            let long : length t ≡ n = length-take n r ∙ omega (arith, room) in
            let same : (i : ℕ) → i < n → get_or t i 0 ≡ get_or r i 0 =
            λ i h. sym (get_or-append t (drop n r) 0 i (omega (arith, long, h))) ∙ ap (λ (l : List ℕ). get_or l i 0) (sym parts) in
            let says : hex_size (hex_bytes t) ≡ hex_byte (get_or r 0 0) (get_or r 1 0) =
            byte_at t 0 0 refl (omega (arith, long, q)) ∙ ap₂ hex_byte (same 0 (omega (arith, q))) (same 1 (omega (arith, q))) in
            omega (arith, long, q, says, said)

-- ---- a text as it is cut

-- a text of nothing, and one that begins with another byte than a colon
pub empty-line : (t : List ℕ) → length t ≡ 0 → line_refusal (first_line t) ≡ 20
unfolding hex_lines is_record
empty-line [] h = not-record [] refl
empty-line (b ∷ bs) h = absurd (omega (arith, h))

no-colon : (line : List ℕ) → (get_or line 0 0 ≡ 58 → ⊥) → line_refusal line ≡ 20
unfolding is_record
no-colon line ne = not-record line (rw (ne_eqb (get_or line 0 0) 58 ne))

pub other-byte : (t : List ℕ) (b : ℕ) (r : List ℕ) → t ≡ b ∷ r → (b ≡ 58 → ⊥) → line_refusal (first_line t) ≡ 20
other-byte t b r e ne = rw e (go (ends_here (b ∷ r)) refl)
  where
    go : (x : Bool) → ends_here (b ∷ r) ≡ x → line_refusal (first_line (b ∷ r)) ≡ 20
    go true e = rw (ends-here (b ∷ r) e).0 (no-colon [] (λ z. omega (arith, z)))
    go false e = rw (goes_on b r e) (no-colon (b ∷ first_line r) ne)

-- one with a colon, digits that say how many, as many bytes, and a line end
pub cut : (t r ds s rest : List ℕ) (size : ℕ) → t ≡ 58 ∷ r → byte_in r 0 ≡ Some size → (size + 5) * 2 ≤ length r → ds ≡ take ((size + 5) * 2) r → s ≡ drop ((size + 5) * 2) r
    → ends_here s ≡ true → rest ≡ drop (end_length s) s
    → (line_refusal (first_line t) ≡ line_refusal (58 ∷ ds)) × (line_refusal (58 ∷ ds) ≡ 0 → hex_lines t ≡ (58 ∷ ds) ∷ hex_lines rest) × (length rest < length t)
cut t r ds s rest size e says room d q h w =
    let n = (size + 5) * 2 in
    let ended = rw q at h in
    rw (w, q, d, e) (
      same-number r size says n refl room ended,
      good-lines r size says n refl room ended,
      omega (arith, length-drop (end_length (drop n r)) (drop n r), length-drop n r, room),
    )
