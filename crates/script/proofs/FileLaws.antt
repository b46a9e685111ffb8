-- Where a file ends, one byte at a time.
-- Assumes nothing.
use Rattle.std.proofs.Common.{◌≡◌, ◌⊎◌, inl, inr, refl, ap, ◌∙◌, ◌&&◌, Bool, true, false, List, [], ◌∷◌, ℕ, ◌+◌, ◌≤◌, ◌<◌, length, take, drop, get_or, add-zero, arith}
use Rattle.std.proofs.lemmas.List.{length-take, get_or-take, get_or-drop}
use borrow.Author.Tests.{ne_eqb}
use lib.Dec.{eqb}
use lib.ListN.{length-drop, drop_of_length-le}
use lib.Pointwise.{pointwise}
use Rattle.std.proofs.lemmas.Bool.{cases_eq}
use Rattle.ground_rules.specs.Choice.{pick}
use Rattle.script_text.proofs.TextLaws.{from-here}
use Rattle.script.specs.Lines.{closes_file, file_from}

module _ (text : List ℕ) (at : ℕ) (start : Bool) where
  -- with the text a file ends
  pub file-over : length text ≤ at → file_from text at start (drop at text) ≡ at
  unfolding file_from
  file-over h = ap (file_from text at start) (drop_of_length-le text h)

  -- it ends here, or goes on, as the test says
  file-tested : (t : Bool) → at < length text → pick start (closes_file text at) false ≡ t
      → file_from text at start (drop at text) ≡ pick t at (file_from text (at + 1) (eqb (get_or text at 0) 10) (drop (at + 1) text))
  unfolding file_from
  file-tested t h e =
      ap (file_from text at start) (from-here text at h)
      ∙ ap (λ (b : Bool). pick b at (file_from text (at + 1) (eqb (get_or text at 0) 10) (drop (at + 1) text))) e

  -- at the line that closes it
  pub file-here : at < length text → pick start (closes_file text at) false ≡ true → file_from text at start (drop at text) ≡ at
  file-here h e = file-tested true h e

  -- behind any other byte it goes on
  pub file-next : at < length text → pick start (closes_file text at) false ≡ false
      → file_from text at start (drop at text) ≡ file_from text (at + 1) (eqb (get_or text at 0) 10) (drop (at + 1) text)
  file-next h e = file-tested false h e

-- ---- the word that closes it

-- a list is the word exactly where it is three long and has its characters
spells : (l : List ℕ) → pointwise eqb l (101 ∷ 110 ∷ 100 ∷ []) ≡ pick (eqb (length l) 3) (eqb (get_or l 0 0) 101 && eqb (get_or l 1 0) 110 && eqb (get_or l 2 0) 100) false
spells [] = refl
spells (x ∷ []) = ends (eqb x 101)
  where
    ends : (a : Bool) → (a && false) ≡ false
    ends true = refl
    ends false = refl
spells (x ∷ y ∷ []) = ends (eqb x 101) (eqb y 110)
  where
    ends : (a b : Bool) → (a && (b && false)) ≡ false
    ends true true = refl
    ends true false = refl
    ends false b = refl
spells (x ∷ y ∷ z ∷ []) = ends (eqb x 101) (eqb y 110) (eqb z 100)
  where
    ends : (a b c : Bool) → (a && (b && (c && true))) ≡ ((a && b) && c)
    ends true true true = refl
    ends true true false = refl
    ends true false c = refl
    ends false b c = refl
spells (x ∷ y ∷ z ∷ w ∷ l) = rw (ne_eqb (length (x ∷ y ∷ z ∷ w ∷ l)) 3 (λ e. omega arith)) (ends (eqb x 101) (eqb y 110) (eqb z 100))
  where
    ends : (a b c : Bool) → (a && (b && (c && false))) ≡ false
    ends true true true = refl
    ends true true false = refl
    ends true false c = refl
    ends false b c = refl

-- so do the bytes from a place on
pub spells_here : (text : List ℕ) (at n : ℕ) → at + n ≤ length text
    → pointwise eqb (take n (drop at text)) (101 ∷ 110 ∷ 100 ∷ []) ≡ pick (eqb n 3) (eqb (get_or text at 0) 101 && eqb (get_or text (at + 1) 0) 110 && eqb (get_or text (at + 2) 0) 100) false
spells_here text at n h = spells (take n (drop at text)) ∙ rw long (go (cases_eq n 3))
  where
    long : length (take n (drop at text)) ≡ n
    long = omega (arith, length-take n (drop at text), length-drop at text)

    place : (i : ℕ) → n ≡ 3 → i < 3 → get_or (take n (drop at text)) i 0 ≡ get_or text (at + i) 0
    place i e k = get_or-take n (drop at text) i 0 (omega arith) ∙ get_or-drop at text i 0

    go : (n ≡ 3) ⊎ (n ≡ 3 → ⊥) → pick (eqb n 3) (eqb (get_or (take n (drop at text)) 0 0) 101 && eqb (get_or (take n (drop at text)) 1 0) 110 && eqb (get_or (take n (drop at text)) 2 0) 100) false
        ≡ pick (eqb n 3) (eqb (get_or text at 0) 101 && eqb (get_or text (at + 1) 0) 110 && eqb (get_or text (at + 2) 0) 100) false
    go (inl e) =
        let first : get_or (take n (drop at text)) 0 0 ≡ get_or text at 0 = place 0 e (omega arith) ∙ ap (λ (k : ℕ). get_or text k 0) (add-zero at) in
        rw (first, place 1 e (omega arith), place 2 e (omega arith))
    go (inr e) = rw (ne_eqb n 3 e)
