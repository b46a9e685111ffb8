-- The laws of a text's lines: where the first one ends, what it holds, and what follows.
-- Assumes nothing.
use Prim.Native.Nat.{ℕ, ◌<◌, ◌≤◌}
use lib.Dec.{ltb, eqb, lit≤}
use lib.ListN.{length, drop}
use mathlib.Core.Bool.{Bool, true, false, ◌&&◌, ◌||◌}
use mathlib.Core.List.{List, [], ◌∷◌, ◌++◌}
use mathlib.Core.Path.{◌≡◌, refl, sym, ap}
use native.Mathlib.Omega.{arith}
use Rattle.ground_rules.proofs.ChoiceLaws.{apart, both_left, both_right}
use Rattle.ground_rules.specs.Choice.{pick}
use Rattle.prom_rules.specs.Records.{hex_value, all_hex}
use Rattle.prom_rules.specs.Text.{begins_lf, in_front, hex_lines}
use Rattle.prom_rules.proofs.DigitLaws.{no_digit}
use Rattle.prom.specs.Parts.{first_of, first_line, ends_here, end_length}

-- the lines behind the first
abbrev pub others_of : List (List ℕ) → List (List ℕ)
others_of [] = []
others_of (line ∷ lines) = lines

in-front : (b : ℕ) (lines : List (List ℕ)) → in_front b lines ≡ (b ∷ first_of lines) ∷ others_of lines
unfolding in_front
in-front b [] = refl
in-front b (line ∷ lines) = refl

-- where a line ends, it is blank, and the others follow the line end
pub ends-here : (t : List ℕ) → ends_here t ≡ true → (first_line t ≡ []) × (others_of (hex_lines t) ≡ hex_lines (drop (end_length t) t)) × (end_length t ≤ length t)
unfolding begins_lf hex_lines ends_here end_length
ends-here [] h = (refl, refl, lit≤ tt)
ends-here (b ∷ bs) h = go (eqb b 10) (eqb b 13) bs h
  where
    go : (x y : Bool) (bs : List ℕ) → x || y && begins_lf bs ≡ true
        → (first_of (pick x ([] ∷ hex_lines bs) (pick (y && begins_lf bs) (hex_lines bs) (in_front b (hex_lines bs)))) ≡ [])
        × (others_of (pick x ([] ∷ hex_lines bs) (pick (y && begins_lf bs) (hex_lines bs) (in_front b (hex_lines bs)))) ≡ hex_lines (drop (pick x 1 2) (b ∷ bs)))
        × (pick x 1 2 ≤ length (b ∷ bs))
    go true y bs h = (refl, refl, omega arith)
    go false true [] h = apart (sym h)
    go false true (c ∷ cs) h =
        let e : eqb c 10 ≡ true = h in (rw e, rw e, omega arith)
    go false false bs h = apart (sym h)

-- where none ends, the line begins with the byte
pub goes_on : (b : ℕ) (bs : List ℕ) → ends_here (b ∷ bs) ≡ false → hex_lines (b ∷ bs) ≡ (b ∷ first_line bs) ∷ others_of (hex_lines bs)
unfolding hex_lines ends_here
goes_on b bs h = go (eqb b 10) (eqb b 13 && begins_lf bs) h
  where
    go : (x y : Bool) → x || y ≡ false → pick x ([] ∷ hex_lines bs) (pick y (hex_lines bs) (in_front b (hex_lines bs))) ≡ (b ∷ first_line bs) ∷ others_of (hex_lines bs)
    go true y h = apart h
    go false true h = apart h
    go false false h = in-front b (hex_lines bs)

-- a byte that is neither LF nor CR ends no line
pub plain : (b : ℕ) (bs : List ℕ) → eqb b 10 ≡ false → eqb b 13 ≡ false → ends_here (b ∷ bs) ≡ false
unfolding ends_here
plain b bs p q = rw (p, q)

-- nor does a digit
pub digit-plain : (b : ℕ) (bs : List ℕ) → ltb (hex_value b) 16 ≡ true → ends_here (b ∷ bs) ≡ false
unfolding hex_value
digit-plain b bs h = plain b bs (no_digit b 10 refl h) (no_digit b 13 refl h)

-- ---- the first line

-- what stands behind the first line
abbrev pub rest_of : List ℕ → List ℕ
rest_of t = drop (length (first_line t)) t

-- a text is its first line and what stands behind; there the line ends, and the others follow
pub first-line : (t : List ℕ) → (t ≡ first_line t ++ rest_of t) × (ends_here (rest_of t) ≡ true) × (others_of (hex_lines t) ≡ hex_lines (drop (end_length (rest_of t)) (rest_of t)))
unfolding hex_lines ends_here end_length
first-line [] = (refl, refl, refl)
first-line (b ∷ bs) = go (ends_here (b ∷ bs)) refl (first-line bs)
  where
    P : List (List ℕ) → Type 0
    P ls = (b ∷ bs ≡ first_of ls ++ drop (length (first_of ls)) (b ∷ bs))
        × (ends_here (drop (length (first_of ls)) (b ∷ bs)) ≡ true)
        × (others_of ls ≡ hex_lines (drop (end_length (drop (length (first_of ls)) (b ∷ bs))) (drop (length (first_of ls)) (b ∷ bs))))

    go : (x : Bool) → ends_here (b ∷ bs) ≡ x
        → (bs ≡ first_line bs ++ rest_of bs) × (ends_here (rest_of bs) ≡ true) × (others_of (hex_lines bs) ≡ hex_lines (drop (end_length (rest_of bs)) (rest_of bs)))
        → P (hex_lines (b ∷ bs))
    go true e ih =
        let k = ends-here (b ∷ bs) e in
        rw k.0 (refl, e, k.1)
    go false e ih = rw (goes_on b bs e) (ap (λ (l : List ℕ). b ∷ l) ih.0, ih.1, ih.2)

-- ---- digits

-- digits that a line end follows are a line
pub hex-line : (ds s : List ℕ) → all_hex ds ≡ true → ends_here s ≡ true
    → (first_line (ds ++ s) ≡ ds) × (others_of (hex_lines (ds ++ s)) ≡ hex_lines (drop (end_length s) s))
unfolding all_hex
hex-line [] s h e = let k = ends-here s e in (k.0, k.1)
hex-line (d ∷ ds) s h e =
    let ih = hex-line ds s (both_right (ltb (hex_value d) 16) (all_hex ds) h) e in
    rw (goes_on d (ds ++ s) (digit-plain d (ds ++ s) (both_left (ltb (hex_value d) 16) (all_hex ds) h)))
    (ap (λ (l : List ℕ). d ∷ l) ih.0, ih.1)

-- a text of some bytes has a first line
pub lines-some : (t : List ℕ) → 0 < length t → hex_lines t ≡ first_line t ∷ others_of (hex_lines t)
unfolding begins_lf hex_lines
lines-some [] h = absurd (omega arith)
lines-some (b ∷ bs) h = go (eqb b 10) (eqb b 13) bs
  where
    go : (x y : Bool) (bs : List ℕ)
        → pick x ([] ∷ hex_lines bs) (pick (y && begins_lf bs) (hex_lines bs) (in_front b (hex_lines bs)))
        ≡ first_of (pick x ([] ∷ hex_lines bs) (pick (y && begins_lf bs) (hex_lines bs) (in_front b (hex_lines bs))))
        ∷ others_of (pick x ([] ∷ hex_lines bs) (pick (y && begins_lf bs) (hex_lines bs) (in_front b (hex_lines bs))))
    go true y bs = refl
    go false false bs = rw (in-front b (hex_lines bs))
    go false true [] = rw (in-front b [])
    go false true (c ∷ cs) = lf (eqb c 10) refl
      where
        lf : (x : Bool) → eqb c 10 ≡ x
            → pick x (hex_lines (c ∷ cs)) (in_front b (hex_lines (c ∷ cs)))
            ≡ first_of (pick x (hex_lines (c ∷ cs)) (in_front b (hex_lines (c ∷ cs)))) ∷ others_of (pick x (hex_lines (c ∷ cs)) (in_front b (hex_lines (c ∷ cs))))
        lf true e = rw e
        lf false e = rw (in-front b (hex_lines (c ∷ cs)))
