-- A line read back: its word and its operands, from its characters alone.
-- Assumes nothing.
use mathlib.Core.Path.{◌≡◌, refl, ap, ◌∙◌}
use mathlib.Core.Bool.{Bool, true, false, not, ◌&&◌, ◌||◌}
use mathlib.Core.List.{List, [], ◌∷◌, ◌++◌, append-nil}
use mathlib.Core.Logic.{◌⊎◌, inl, inr}
use Prim.Native.Nat.{ℕ, zero, suc, ◌+◌, ◌*◌, ◌-◌, ◌/◌, ◌%◌, ◌<◌}
use native.Mathlib.Omega.{arith}
use lib.Dec.{T, eqb, ltb}
use lib.ListN.{length, get_or, drop}
use borrow.Author.Tests.{eqb-true, eqb-false}
use Rattle.ground_rules.specs.Choice.{pick}
use Rattle.listing_rules.specs.Characters.{same_text, hex_glyph, hex_digits, number_text, digit_text}
use Rattle.listing_rules.specs.Forms.{Operand, reach_from, target_of, filled, register_name, base_name, mode_text, spelled, following}
use Rattle.listing_rules.specs.Forms.Operand.{none, register, memory, number, digit}
use Rattle.listing_rules.specs.declared.Slot.{Slot}
use Rattle.listing_rules.specs.declared.Slot.TheVariants.{Empty, Name, Place, Number, Target, Digit}
use Rattle.listing_rules.proofs.LineLaws.{and_left, and_right}

-- what parts the texts of a line: a blank, a comma, a line feed
unfoldable pub is_mark : ℕ → Bool
is_mark c = eqb c 32 || (eqb c 44 || eqb c 10)

-- whether a text has none of them
unfoldable pub clean : List ℕ → Bool
clean [] = true
clean (c ∷ cs) = not (is_mark c) && clean cs

-- a text cut at each of them
push : ℕ → List (List ℕ) → List (List ℕ)
push c [] = (c ∷ []) ∷ []
push c (p ∷ ps) = (c ∷ p) ∷ ps

pub cut : List ℕ → List (List ℕ)
cut [] = [] ∷ []
cut (c ∷ cs) = pick (is_mark c) ([] ∷ cut cs) (push c (cut cs))

pub not-mark : (c : ℕ) → T (not (is_mark c)) → is_mark c ≡ false
not-mark c t = go (is_mark c) t
  where
    go : (b : Bool) → T (not b) → b ≡ false
    go true u = absurd u
    go false u = refl

cut_word : (w rest : List ℕ) (m : ℕ) → T (clean w) → is_mark m ≡ true → cut (w ++ (m ∷ rest)) ≡ w ∷ cut rest
unfolding cut push clean
cut_word [] rest m t h = rw h
cut_word (c ∷ w) rest m t h = rw (not-mark c (and_left (not (is_mark c)) (clean w) t), cut_word w rest m (and_right (not (is_mark c)) (clean w) t) h)

cut-last : (w : List ℕ) → T (clean w) → cut w ≡ w ∷ []
unfolding cut push clean
cut-last [] t = refl
cut-last (c ∷ w) t = rw (not-mark c (and_left (not (is_mark c)) (clean w) t), cut-last w (and_right (not (is_mark c)) (clean w) t))

-- the operands that there are
unfoldable pub present : List Operand → List Operand
present [] = []
present (none ∷ os) = present os
present (register r ∷ os) = register r ∷ present os
present (memory m a o ∷ os) = memory m a o ∷ present os
present (number b ∷ os) = number b ∷ present os
present (digit n ∷ os) = digit n ∷ present os

-- operands, the first behind a mark and the others behind commas
unfoldable pub marks : ℕ → List Operand → List ℕ
marks m [] = []
marks m (o ∷ os) = following m o ++ marks 44 os

unfoldable pub spellings : List Operand → List (List ℕ)
spellings [] = []
spellings (o ∷ os) = spelled o ∷ spellings os

-- a hexadecimal digit's value
hex_value : ℕ → ℕ
hex_value g = pick (ltb g 65) (g - 48) (g - 55)

pair_value : ℕ → ℕ → ℕ
pair_value high low = hex_value high * 16 + hex_value low

-- the bytes of a number's text
number_in : List ℕ → List ℕ
number_in t =
    pick (eqb (length t) 4) (pair_value (get_or t 1 0) (get_or t 2 0) ∷ []) (pair_value (get_or t 3 0) (get_or t 4 0) ∷ pair_value (get_or t 1 0) (get_or t 2 0) ∷ [])

-- a base by its last letter
base_in : ℕ → ℕ
base_in c = pick (eqb c 65) 0 (pick (eqb c 66) 1 (pick (eqb c 67) 2 3))

-- the operands of which there are few
few : List Operand
few =
    register 0 ∷ register 1 ∷ register 2 ∷ register 3 ∷ register 4 ∷ register 5 ∷ register 6 ∷ register 7
    ∷ digit 0 ∷ digit 1 ∷ digit 2 ∷ digit 3 ∷ digit 4 ∷ digit 5 ∷ digit 6 ∷ digit 7 ∷ digit 8 ∷ digit 16
    ∷ memory 0 0 [] ∷ memory 1 0 [] ∷ memory 2 0 [] ∷ memory 3 0 []
    ∷ memory 0 2 [] ∷ memory 1 2 [] ∷ memory 2 2 [] ∷ memory 3 2 []
    ∷ memory 0 3 [] ∷ memory 1 3 [] ∷ memory 2 3 [] ∷ memory 3 3 [] ∷ []

search-in : List Operand → List ℕ → Operand → Operand
search-in [] t other = other
search-in (o ∷ os) t other = pick (same_text (spelled o) t) o (search-in os t other)

-- the operand that a text is
pub read_operand : List ℕ → Operand
read_operand t = search-in few t (pick (eqb (get_or t 0 0) 91) (memory (base_in (get_or t 2 0)) 1 (number_in (drop 5 t))) (number (number_in t)))

unfoldable pub read_all : List (List ℕ) → List Operand
read_all [] = []
read_all (t ∷ ts) = read_operand t ∷ read_all ts

-- an operand that is read back from its text, which has no mark in it
pub record Legible (o : Operand) : Type 0 where
  pub plain : T (clean (spelled o))
  pub back : read_operand (spelled o) ≡ o

-- a property of each number below some number, from its single cases
abbrev pub Each : ℕ → (ℕ → Type 0) → Type 0
Each zero P = Unit
Each (suc n) P = Each n P × P n

pub each : (n : ℕ) (P : ℕ → Type 0) → Each n P → (i : ℕ) → i < n → P i
each zero P h i l = absurd (omega arith)
each (suc n) P h i l = go (eqb i n) refl (each n P h.0 i)
  where
    go : (b : Bool) → eqb i n ≡ b → (i < n → P i) → P i
    go true e lower = rw (eqb-true i n e) h.1
    go false e lower = let d : i ≡ n → ⊥ = eqb-false i n e in lower (omega arith)

hex-digit : (d : ℕ) → d < 16 → (hex_value (hex_glyph d) ≡ d) × (T (not (is_mark (hex_glyph d))))
unfolding hex_value hex_glyph is_mark
hex-digit d h =
    each 16 (λ (k : ℕ). (hex_value (hex_glyph k) ≡ k) × (T (not (is_mark (hex_glyph k)))))
    (((((((((((((((((tt, (refl, tt)), (refl, tt)), (refl, tt)), (refl, tt)), (refl, tt)), (refl, tt)), (refl, tt)), (refl, tt)), (refl, tt)), (refl, tt)), (refl, tt)), (refl, tt)), (refl, tt)), (refl, tt)), (refl, tt)), (refl, tt)))
    d h

-- a byte is read back from its two digits
hex-byte : (b : ℕ) → b < 256 → pair_value (hex_glyph (b / 16 % 16)) (hex_glyph (b % 16)) ≡ b
unfolding pair_value
hex-byte b h = rw ((hex-digit (b / 16 % 16) (omega arith)).0, (hex-digit (b % 16) (omega arith)).0) (omega arith)

both-clean : (a b : Bool) → T a → T b → T (a && b)
both-clean true b t u = u
both-clean false b t u = absurd t

pub legible-byte : (b : ℕ) → b < 256 → Legible (number (b ∷ []))
unfolding spelled number_text hex_digits clean read_operand few search-in same_text register_name digit_text base_name mode_text number_in is_mark
legible-byte b h =
    record {
      plain = both-clean (not (is_mark (hex_glyph (b / 16 % 16)))) _ (hex-digit (b / 16 % 16) (omega arith)).1 (both-clean (not (is_mark (hex_glyph (b % 16)))) _ (hex-digit (b % 16) (omega arith)).1 tt);
      back = ap (λ (x : ℕ). number (x ∷ [])) (hex-byte b h);
    }

pub legible-word : (l h : ℕ) → l < 256 → h < 256 → Legible (number (l ∷ h ∷ []))
unfolding spelled number_text hex_digits clean read_operand few search-in same_text register_name digit_text base_name mode_text number_in is_mark
legible-word l h a b =
    record {
      plain =
          both-clean (not (is_mark (hex_glyph (h / 16 % 16)))) _ (hex-digit (h / 16 % 16) (omega arith)).1
          (both-clean (not (is_mark (hex_glyph (h % 16)))) _ (hex-digit (h % 16) (omega arith)).1
          (both-clean (not (is_mark (hex_glyph (l / 16 % 16)))) _ (hex-digit (l / 16 % 16) (omega arith)).1 (both-clean (not (is_mark (hex_glyph (l % 16)))) _ (hex-digit (l % 16) (omega arith)).1 tt)));
      back = rw (hex-byte l a, hex-byte h b);
    }

pub legible-register : (r : ℕ) → r < 8 → Legible (register r)
unfolding spelled register_name clean read_operand few search-in same_text is_mark
legible-register r h = each 8 (λ (k : ℕ). Legible (register k)) ((((((((tt, record { plain = tt; back = refl }), record { plain = tt; back = refl }), record { plain = tt; back = refl }), record { plain = tt; back = refl }), record { plain = tt; back = refl }), record { plain = tt; back = refl }), record { plain = tt; back = refl }), record { plain = tt; back = refl }) r h

pub legible-bit : (n : ℕ) → n < 8 → Legible (digit n)
unfolding spelled digit_text register_name clean read_operand few search-in same_text is_mark
legible-bit n h = each 8 (λ (k : ℕ). Legible (digit k)) ((((((((tt, record { plain = tt; back = refl }), record { plain = tt; back = refl }), record { plain = tt; back = refl }), record { plain = tt; back = refl }), record { plain = tt; back = refl }), record { plain = tt; back = refl }), record { plain = tt; back = refl }), record { plain = tt; back = refl }) n h

pub legible-width : (b : Bool) → Legible (digit (pick b 16 8))
unfolding spelled digit_text register_name clean read_operand few search-in same_text is_mark
legible-width true = record { plain = tt; back = refl }
legible-width false = record { plain = tt; back = refl }

legible-offset : (mm b : ℕ) → mm < 4 → b < 256 → Legible (memory mm 1 (b ∷ []))
unfolding spelled base_name mode_text number_text hex_digits register_name digit_text clean read_operand few search-in same_text number_in base_in is_mark
legible-offset mm b h l =
    let c = both-clean (not (is_mark (hex_glyph (b / 16 % 16)))) _ (hex-digit (b / 16 % 16) (omega arith)).1 (both-clean (not (is_mark (hex_glyph (b % 16)))) _ (hex-digit (b % 16) (omega arith)).1 tt) in
    let e = hex-byte b l in
    each 4 (λ (k : ℕ). Legible (memory k 1 (b ∷ [])))
    ((((tt, record { plain = c; back = ap (λ (x : ℕ). memory 0 1 (x ∷ [])) e }), record { plain = c; back = ap (λ (x : ℕ). memory 1 1 (x ∷ [])) e }), record { plain = c; back = ap (λ (x : ℕ). memory 2 1 (x ∷ [])) e }), record { plain = c; back = ap (λ (x : ℕ). memory 3 1 (x ∷ [])) e })
    mm h

pub legible-memory : (mm aa b : ℕ) → mm < 4 → aa < 4 → b < 256 → Legible (memory mm aa (pick (eqb aa 1) (b ∷ []) []))
unfolding spelled base_name mode_text register_name digit_text clean read_operand few search-in same_text is_mark
legible-memory mm aa b h k l =
    each 4 (λ (j : ℕ). Legible (memory mm j (pick (eqb j 1) (b ∷ []) [])))
    ((((tt, each 4 (λ (i : ℕ). Legible (memory i 0 [])) ((((tt, record { plain = tt; back = refl }), record { plain = tt; back = refl }), record { plain = tt; back = refl }), record { plain = tt; back = refl }) mm h), legible-offset mm b h l), each 4 (λ (i : ℕ). Legible (memory i 2 [])) ((((tt, record { plain = tt; back = refl }), record { plain = tt; back = refl }), record { plain = tt; back = refl }), record { plain = tt; back = refl }) mm h), each 4 (λ (i : ℕ). Legible (memory i 3 [])) ((((tt, record { plain = tt; back = refl }), record { plain = tt; back = refl }), record { plain = tt; back = refl }), record { plain = tt; back = refl }) mm h)
    aa k

-- a place that the instructions' fields give: a register, a base and a mode that there are, a bit, or a width
unfoldable pub Fair : Slot → Type 0
Fair Empty = Unit
Fair (Name r) = r < 8
Fair (Place m at) = (m.mm < 4) × (m.aa < 4)
Fair (Number at two) = Unit
Fair (Target at two) = Unit
Fair (Digit n) = (n < 8) ⊎ ((b : Bool) × (n ≡ pick b 16 8))

-- bytes
unfoldable pub Bytes : List ℕ → Type 0
Bytes bytes = (i : ℕ) → get_or bytes i 0 < 256

-- the operand of such a place is legible, or there is none
pub data Readable : Operand → Type 0 where
  nothing : Readable none
  legible : {o : Operand} → Legible o → Readable o

pub readable : (bytes : List ℕ) (end : ℕ) (a : Slot) → Bytes bytes → Fair a → Readable (filled bytes end a)
unfolding filled Fair Bytes
readable bytes end Empty h f = nothing
readable bytes end (Name r) h f = legible (legible-register r f)
readable bytes end (Place m at) h f = legible (legible-memory m.mm m.aa (get_or bytes at 0) f.0 f.1 (h at))
readable bytes end (Number at true) h f = legible (legible-word (get_or bytes at 0) (get_or bytes (at + 1) 0) (h at) (h (at + 1)))
readable bytes end (Number at false) h f = legible (legible-byte (get_or bytes at 0) (h at))
readable bytes end (Target at two) h f = let t = target_of end (reach_from bytes at two) in legible (legible-word (t % 256) (t / 256 % 256) (omega arith) (omega arith))
readable bytes end (Digit n) h (inl l) = legible (legible-bit n l)
readable bytes end (Digit n) h (inr e) = rw e.1 (legible (legible-width e.0))

-- operands that are each legible or none
pub data AllReadable : List Operand → Type 0 where
  end : AllReadable []
  also : {o : Operand} {os : List Operand} → Readable o → AllReadable os → AllReadable (o ∷ os)

pub clean_of : {o : Operand} → Readable o → T (clean (spelled o))
unfolding spelled clean
clean_of nothing = tt
clean_of (legible l) = l.plain

cut_step : (w s rest : List ℕ) (m : ℕ) → T (clean w) → is_mark m ≡ true → cut (w ++ ((m ∷ s) ++ rest)) ≡ w ∷ cut (s ++ rest)
cut_step w s rest m t h = cut_word w (s ++ rest) m t h

-- a word and operands cut apart
pub cut-marks : (w : List ℕ) (m : ℕ) (os : List Operand) → T (clean w) → is_mark m ≡ true → AllReadable os → cut (w ++ marks m os) ≡ w ∷ spellings (present os)
unfolding marks following present spellings is_mark
cut-marks w m [] t h end = ap cut (append-nil w) ∙ cut-last w t
cut-marks w m (none ∷ os) t h (also r rs) = cut-marks w 44 os t refl rs
cut-marks w m (register r ∷ os) t h (also l rs) = cut_step w (spelled (register r)) (marks 44 os) m t h ∙ ap (λ (l : List (List ℕ)). w ∷ l) (cut-marks (spelled (register r)) 44 os (clean_of l) refl rs)
cut-marks w m (memory a b c ∷ os) t h (also l rs) = cut_step w (spelled (memory a b c)) (marks 44 os) m t h ∙ ap (λ (l : List (List ℕ)). w ∷ l) (cut-marks (spelled (memory a b c)) 44 os (clean_of l) refl rs)
cut-marks w m (number b ∷ os) t h (also l rs) = cut_step w (spelled (number b)) (marks 44 os) m t h ∙ ap (λ (l : List (List ℕ)). w ∷ l) (cut-marks (spelled (number b)) 44 os (clean_of l) refl rs)
cut-marks w m (digit n ∷ os) t h (also l rs) = cut_step w (spelled (digit n)) (marks 44 os) m t h ∙ ap (λ (l : List (List ℕ)). w ∷ l) (cut-marks (spelled (digit n)) 44 os (clean_of l) refl rs)

is-register : (r : ℕ) → register r ≡ none → ⊥
is-register r e = let z : ◌≡◌ {A = ℕ} 0 1 = cc in eqb-false 0 1 refl z

is-memory : (a b : ℕ) (c : List ℕ) → memory a b c ≡ none → ⊥
is-memory a b c e = let z : ◌≡◌ {A = ℕ} 0 1 = cc in eqb-false 0 1 refl z

is_number : (b : List ℕ) → number b ≡ none → ⊥
is_number b e = let z : ◌≡◌ {A = ℕ} 0 1 = cc in eqb-false 0 1 refl z

is_digit : (n : ℕ) → digit n ≡ none → ⊥
is_digit n e = let z : ◌≡◌ {A = ℕ} 0 1 = cc in eqb-false 0 1 refl z

-- an operand that there is, read back
back-of : {o : Operand} → (o ≡ none → ⊥) → Readable o → read_operand (spelled o) ≡ o
back-of h nothing = absurd (h refl)
back-of h (legible l) = l.back

-- the operands read back
pub read_back : (os : List Operand) → AllReadable os → read_all (spellings (present os)) ≡ present os
unfolding read_all spellings present
read_back [] end = refl
read_back (none ∷ os) (also r rs) = read_back os rs
read_back (register r ∷ os) (also l rs) = rw (back-of (is-register r) l, read_back os rs)
read_back (memory a b c ∷ os) (also l rs) = rw (back-of (is-memory a b c) l, read_back os rs)
read_back (number b ∷ os) (also l rs) = rw (back-of (is_number b) l, read_back os rs)
read_back (digit n ∷ os) (also l rs) = rw (back-of (is_digit n) l, read_back os rs)
