-- The laws of tables, each from the same law of every row's form: a record comes back from its bytes, its bytes are in range where its parts are, bytes in range come back from the record that is made of them, and the test of their ranges says what its condition says.
-- Assumes nothing.
use Prim.Native.Nat.{ℕ, zero, suc, ◌+◌, ◌≤◌}
use lib.Dec.{ltb}
use lib.ListN.{length, get_or, take, drop, length-append}
use lib.Seq.{take-add, drop-drop}
use mathlib.Core.Bool.{Bool, true, ◌&&◌}
use mathlib.Core.List.{List, [], ◌∷◌, ◌++◌, append_assoc}
use mathlib.Core.Logic.{◌⊎◌, inl}
use mathlib.Core.Path.{◌≡◌, refl, sym, ap, ap₂, ◌∙◌}
use native.Mathlib.Nat.{add-zero, add_assoc}
use native.Mathlib.Omega.{arith}
use Rattle.ground_rules.proofs.ChoiceLaws.{both_left, both_right}
use Rattle.ground_rules.proofs.ConditionLaws.{Told, told_and, told-true}
use Rattle.state_rules.specs.Conditions.{Bytes}
use Rattle.state_rules.specs.Tables.{PartForm, TableRow, width_by, place_from, bytes_by, Makes, made_by, are_by, NoneBy, form_by}

-- a part of the bytes
abbrev pub cut_from : List ℕ → ℕ → ℕ → List ℕ
cut_from b at n = take n (drop at b)

-- two parts, one behind the other, are one
pub cuts-join : (b : List ℕ) (at v w next : ℕ) → next ≡ at + v → cut_from b at v ++ cut_from b next w ≡ cut_from b at (v + w)
cuts-join b at v w next e = rw e (ap (λ (l : List ℕ). cut_from b at v ++ take w l) (sym (drop-drop v at b)) ∙ sym (take-add v w (drop at b)))

-- ---- what is to be shown of a form

-- which values fit it and which are in its range; its bytes have its width; a value that fits comes back from its bytes, whatever stands before and behind them; one in range leaves bytes in range; bytes in range come back from their value; the test says what the condition says; and where its byte has so many values, the test is that the byte is below them
pub record Lawful (A : Type 0) (form : PartForm A) : Type 1 where
  pub Fits : A → Type 0
  pub Ranges : A → Type 0
  pub long : (a : A) → length (form.bytes a) ≡ form.width
  pub back : (a : A) → Fits a → (xs rest : List ℕ) (at : ℕ) → at ≡ length xs → form.value (xs ++ (form.bytes a ++ rest)) at ≡ a
  pub ranges : (a : A) → Ranges a → (xs rest : List ℕ) (at : ℕ) → at ≡ length xs → form.is (xs ++ (form.bytes a ++ rest)) at ≡ true
  pub forth : (b : List ℕ) (at : ℕ) → Bytes b → at + form.width ≤ length b → form.is b at ≡ true → form.bytes (form.value b at) ≡ cut_from b at form.width
  pub told : (b : List ℕ) (at : ℕ) → Told (form.is b at) (form.No b at)
  pub coded : (b : List ℕ) (at : ℕ) → (form.values ≡ 0) ⊎ (form.is b at ≡ ltb (get_or b at 0) form.values)

-- of every row's form
abbrev pub LawfulRows : {A : Type 0} → List (TableRow A) → Type 1
LawfulRows [] = Unit {1}
LawfulRows (r ∷ rs) = Lawful r.Value r.form × LawfulRows rs

-- ---- from rows to a table

place_is : (at k : ℕ) → place_from at k ≡ at + k
place_is at zero = sym (add-zero at)
place_is at (suc k) = refl

module _ {A : Type 0} where
  -- every part fits
  abbrev pub FitsBy : (rows : List (TableRow A)) → LawfulRows rows → A → Type 0
  FitsBy [] l a = Unit {0}
  FitsBy (r ∷ rs) l a = l.0.Fits (r.part a) × FitsBy rs l.1 a

  -- every part is in its range
  abbrev pub RangesBy : (rows : List (TableRow A)) → LawfulRows rows → A → Type 0
  RangesBy [] l a = Unit {0}
  RangesBy (r ∷ rs) l a = l.0.Ranges (r.part a) × RangesBy rs l.1 a

  -- what is made of a record's own parts
  abbrev pub made_from : {R : Type 0} (rows : List (TableRow A)) → Makes rows R → A → R
  made_from [] make a = make
  made_from (r ∷ rs) make a = made_from rs (make (r.part a)) a

  -- a record's parts are those that stand in bytes
  abbrev pub HasParts : (rows : List (TableRow A)) → A → List ℕ → ℕ → ℕ → Type 0
  HasParts [] a b at k = Unit {0}
  HasParts (r ∷ rs) a b at k = (r.part a ≡ r.form.value b (place_from at k)) × HasParts rs a b at (k + r.form.width)

  pub long-by : (rows : List (TableRow A)) → LawfulRows rows → (a : A) → length (bytes_by rows a) ≡ width_by rows
  long-by [] l a = refl
  long-by (r ∷ rs) l a = length-append (r.form.bytes (r.part a)) (bytes_by rs a) ∙ ap₂ ◌+◌ (l.0.long (r.part a)) (long-by rs l.1 a)

  module _ (r : TableRow A) (rs : List (TableRow A)) (law : Lawful r.Value r.form) (a : A) (xs rest : List ℕ) (at k : ℕ) (e : at + k ≡ length xs) where
    abbrev one : List ℕ
    one = r.form.bytes (r.part a)

    -- the first part and what is behind it
    apart : xs ++ (one ++ bytes_by rs a ++ rest) ≡ xs ++ (one ++ (bytes_by rs a ++ rest))
    apart = ap (λ (l : List ℕ). xs ++ l) (append_assoc one (bytes_by rs a) rest)

    -- the first part is before the rest
    before : xs ++ (one ++ (bytes_by rs a ++ rest)) ≡ xs ++ one ++ (bytes_by rs a ++ rest)
    before = sym (append_assoc xs one (bytes_by rs a ++ rest))

    here : place_from at k ≡ length xs
    here = place_is at k ∙ e

    next : at + (k + r.form.width) ≡ length (xs ++ one)
    next = sym (add_assoc at k r.form.width) ∙ ap₂ ◌+◌ e (sym (law.long (r.part a))) ∙ sym (length-append xs one)

  pub back_by : {R : Type 0} (rows : List (TableRow A)) (l : LawfulRows rows) (make : Makes rows R) (a : A) → FitsBy rows l a
      → (xs rest : List ℕ) (at k : ℕ) → at + k ≡ length xs → made_by rows make (xs ++ (bytes_by rows a ++ rest)) at k ≡ made_from rows make a
  back_by [] l make a f xs rest at k e = refl
  back_by (r ∷ rs) l make a f xs rest at k e =
      let w = k + r.form.width in
      let first = one r rs l.0 a xs rest at k e in
      ap (λ (b : List ℕ). made_by rs (make (r.form.value b (place_from at k))) b at w) (apart r rs l.0 a xs rest at k e)
      ∙ ap (λ (v : r.Value). made_by rs (make v) (xs ++ (first ++ (bytes_by rs a ++ rest))) at w) (l.0.back (r.part a) f.0 xs (bytes_by rs a ++ rest) (place_from at k) (here r rs l.0 a xs rest at k e))
      ∙ ap (λ (b : List ℕ). made_by rs (make (r.part a)) b at w) (before r rs l.0 a xs rest at k e)
      ∙ back_by rs l.1 (make (r.part a)) a f.1 (xs ++ first) rest at w (next r rs l.0 a xs rest at k e)

  pub ranges-by : (rows : List (TableRow A)) (l : LawfulRows rows) (a : A) → RangesBy rows l a
      → (xs rest : List ℕ) (at k : ℕ) → at + k ≡ length xs → are_by rows (xs ++ (bytes_by rows a ++ rest)) at k ≡ true
  ranges-by [] l a f xs rest at k e = refl
  ranges-by (r ∷ rs) l a f xs rest at k e =
      let w = k + r.form.width in
      let first = one r rs l.0 a xs rest at k e in
      ap (λ (b : List ℕ). r.form.is b (place_from at k) && are_by rs b at w) (apart r rs l.0 a xs rest at k e)
      ∙ ap (λ (v : Bool). v && are_by rs (xs ++ (first ++ (bytes_by rs a ++ rest))) at w) (l.0.ranges (r.part a) f.0 xs (bytes_by rs a ++ rest) (place_from at k) (here r rs l.0 a xs rest at k e))
      ∙ ap (λ (b : List ℕ). are_by rs b at w) (before r rs l.0 a xs rest at k e)
      ∙ ranges-by rs l.1 a f.1 (xs ++ first) rest at w (next r rs l.0 a xs rest at k e)

  pub forth-by : (rows : List (TableRow A)) → LawfulRows rows → (a : A) (b : List ℕ) (at k : ℕ) → HasParts rows a b at k → Bytes b → at + k + width_by rows ≤ length b
      → are_by rows b at k ≡ true → bytes_by rows a ≡ cut_from b (at + k) (width_by rows)
  forth-by [] l a b at k has byte h f = refl
  forth-by (r ∷ rs) l a b at k has byte h f =
      let w = r.form.width in
      let more = are_by rs b at (k + w) in
      let test = r.form.is b (place_from at k) in
      let here : place_from at k ≡ at + k = place_is at k in
      let inside : place_from at k + w ≤ length b = omega arith in
      let further : at + (k + w) + width_by rs ≤ length b = omega arith in
      ap₂ ◌++◌ (ap r.form.bytes has.0 ∙ l.0.forth b (place_from at k) byte inside (both_left test more f) ∙ ap (λ (n : ℕ). cut_from b n w) here)
      (forth-by rs l.1 a b at (k + w) has.1 byte further (both_right test more f))
      ∙ cuts-join b (at + k) w (width_by rs) (at + (k + w)) (sym (add_assoc at k w))

  pub told-rows : (rows : List (TableRow A)) → LawfulRows rows → (b : List ℕ) (at k : ℕ) → Told (are_by rows b at k) (NoneBy rows b at k)
  told-rows [] l b at k = told-true (λ h. h)
  told-rows (r ∷ rs) l b at k = told_and (l.0.told b (place_from at k)) (told-rows rs l.1 b at (k + r.form.width))

  -- where all parts are in range, each is
  abbrev pub EachIs : (rows : List (TableRow A)) → List ℕ → ℕ → ℕ → Type 0
  EachIs [] b at k = Unit {0}
  EachIs (r ∷ rs) b at k = (r.form.is b (place_from at k) ≡ true) × EachIs rs b at (k + r.form.width)

  pub each-is : (rows : List (TableRow A)) (b : List ℕ) (at k : ℕ) → are_by rows b at k ≡ true → EachIs rows b at k
  each-is [] b at k f = tt
  each-is (r ∷ rs) b at k f =
      let test = r.form.is b (place_from at k) in
      let more = are_by rs b at (k + r.form.width) in
      (both_left test more f, each-is rs b at (k + r.form.width) (both_right test more f))

  -- the form that a table gives
  abbrev pub table_form : (rows : List (TableRow A)) → Makes rows A → PartForm A
  table_form rows make = form_by rows (bytes_by rows) (λ b at. made_by rows make b at 0) (λ b at. are_by rows b at 0)

  -- is lawful where its rows are, and the record is made of its parts
  abbrev pub tabled : (rows : List (TableRow A)) (l : LawfulRows rows) (make : Makes rows A) → ((a : A) → made_from rows make a ≡ a)
      → ((b : List ℕ) (at : ℕ) → HasParts rows (made_by rows make b at 0) b at 0) → Lawful A (table_form rows make)
  tabled rows l make whole has = record {
    Fits = FitsBy rows l;
    Ranges = RangesBy rows l;
    long = long-by rows l;
    back = λ a f xs rest at e. back_by rows l make a f xs rest at 0 (add-zero at ∙ e) ∙ whole a;
    ranges = λ a f xs rest at e. ranges-by rows l a f xs rest at 0 (add-zero at ∙ e);
    forth = λ b at byte h f. forth-by rows l (made_by rows make b at 0) b at 0 (has b at) byte (omega arith) f ∙ ap (λ (n : ℕ). cut_from b n (width_by rows)) (add-zero at);
    told = λ b at. told-rows rows l b at 0;
    coded = λ b at. inl refl;
  }
