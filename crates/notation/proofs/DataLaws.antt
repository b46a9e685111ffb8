-- A DB line as it is written, byte by byte.
-- Assumes nothing.
use mathlib.Core.Path.{◌≡◌, refl, sym, ap, ◌∙◌}
use mathlib.Core.List.{List, [], ◌∷◌, ◌++◌, append_assoc}
use Prim.Native.Nat.{ℕ, suc, ◌+◌, ◌≤◌, ◌<◌}
use native.Mathlib.Numerals.{add-one}
use native.Mathlib.Omega.{arith}
use lib.ListN.{length, get_or, take, drop, drop_of_length-le, length-take}
use lib.Seq.{drop-cons}
use Rattle.listing_rules.specs.Characters.{ascii, number_text}
use Rattle.listing_rules.specs.Lines.{data_items, data_line, 'blank, 'comma, 'end}
use Rattle.listing_rules.proofs.LineLaws.{data-short}
use Rattle.notation.specs.Writing.{held_by, held_in, Fits, Wrote}
use Rattle.notation.proofs.PieceLaws.{fits_head, fits_next, wrote-both, same-fits, same-wrote}

-- the items from index i on, and the line feed
abbrev pub coming : List ℕ → ℕ → ℕ → List ℕ
coming part separator i = data_items separator (drop i part) ++ ('end ∷ [])

-- where the writing has come to: i bytes are listed, and what is to come fits
pub record Listing (part chars : List ℕ) (at separator i : ℕ) : Type 0 where
  pub place : i ≤ length part
  pub mark : held_in separator ≡ separator ∷ []
  pub fits : Fits chars at (coming part separator i)
  pub text : take at chars ++ coming part separator i ≡ data_line part

-- DB stands
pub listing_start : (part before chars : List ℕ) (at : ℕ) → length part ≤ 5 → length before ≡ 28 → Wrote before chars 0 at (held_in 0x4244) → Listing part chars at 'blank 0
unfolding held_in held_by data_line
listing_start part before chars at h size w =
    let whole : Fits before 0 (ascii "DB" ++ coming part 'blank 0) = record { size = size; room = omega (arith, data-short part h) } in
    record { place = omega arith; mark = refl; fits = fits_next (ascii "DB") (coming part 'blank 0) whole w; text = ap (λ (l : List ℕ). l ++ coming part 'blank 0) w.chars }

coming-next : (part : List ℕ) (separator i : ℕ) → i < length part → coming part separator i ≡ separator ∷ (number_text (get_or part i 0 ∷ []) ++ coming part 'comma (i + 1))
unfolding data_items
coming-next part separator i h =
    let n = number_text (get_or part i 0 ∷ []) in
    ap (λ (d : List ℕ). data_items separator d ++ ('end ∷ [])) (drop-cons part i 0 h)
    ∙ ap (λ (l : List ℕ). separator ∷ l) (append_assoc n (data_items 'comma (drop (suc i) part)) ('end ∷ []))
    ∙ ap (λ (k : ℕ). separator ∷ (n ++ coming part 'comma k)) (sym (add-one i))

module _ (part chars : List ℕ) (at separator i : ℕ) (l : Listing part chars at separator i) where
  module _ (h : i < length part) where
    whole : Fits chars at ((separator ∷ []) ++ (number_text (get_or part i 0 ∷ []) ++ coming part 'comma (i + 1)))
    whole = rw (coming-next part separator i h) at l.fits

    -- a separator, a number, and the next byte
    pub listing-first : Fits chars at (held_in separator)
    listing-first = same-fits l.mark (fits_head (separator ∷ []) (number_text (get_or part i 0 ∷ []) ++ coming part 'comma (i + 1)) whole)

    module _ (after : List ℕ) (b : ℕ) (v : Wrote chars after at b (held_in separator)) where
      rest : Fits after b (number_text (get_or part i 0 ∷ []) ++ coming part 'comma (i + 1))
      rest = fits_next (separator ∷ []) (number_text (get_or part i 0 ∷ []) ++ coming part 'comma (i + 1)) whole (same-wrote l.mark v)

      pub listing-second : Fits after b (number_text (get_or part i 0 ∷ []))
      listing-second = fits_head (number_text (get_or part i 0 ∷ [])) (coming part 'comma (i + 1)) rest

      pub listing-next : (last : List ℕ) (next : ℕ) → Wrote after last b next (number_text (get_or part i 0 ∷ [])) → Listing part last next 'comma (i + 1)
      unfolding held_in held_by
      listing-next last next w =
          let both = wrote-both (separator ∷ []) (number_text (get_or part i 0 ∷ [])) (same-wrote l.mark v) w in
          record {
            place = omega arith;
            mark = refl;
            fits = fits_next (number_text (get_or part i 0 ∷ [])) (coming part 'comma (i + 1)) rest w;
            text =
                ap (λ (t : List ℕ). t ++ coming part 'comma (i + 1)) both.chars
                ∙ append_assoc (take at chars) (separator ∷ number_text (get_or part i 0 ∷ [])) (coming part 'comma (i + 1))
                ∙ ap (λ (t : List ℕ). take at chars ++ t) (sym (coming-next part separator i h))
                ∙ l.text;
          }

  module _ (h : length part ≤ i) where
    none : coming part separator i ≡ 'end ∷ []
    unfolding data_items
    none = rw (drop_of_length-le part h)

    -- the line feed, and the line
    pub listing-last : Fits chars at (held_in 10)
    unfolding held_in held_by
    listing-last = rw none at l.fits

    pub listing-end : (last : List ℕ) (len : ℕ) → Wrote chars last at len (held_in 10) → (take len last ≡ data_line part) × (len ≡ length (take len last))
    unfolding held_in held_by
    listing-end last len w =
        let e : take len last ≡ data_line part = w.chars ∙ ap (λ (t : List ℕ). take at chars ++ t) (sym none) ∙ l.text in
        (e, omega (arith, length-take len last, w.size, w.index, l.fits.room, ap length none))
