-- The entry that the code chooses by numbers is the one of the rules.
-- Assumes nothing.
use mathlib.Core.Path.{◌≡◌, refl, sym, ap, ◌∙◌}
use mathlib.Core.Bool.{Bool, true, false, not, ◌&&◌, ◌||◌, false≢true}
use mathlib.Core.List.{List, [], ◌∷◌}
use Prim.Native.Nat.{ℕ, zero, suc, ◌+◌, ◌*◌, ◌/◌, ◌%◌, ◌≤◌, ◌<◌}
use native.Mathlib.Omega.{arith}
use native.Mathlib.Nat.{mod-eq_of_lt}
use lib.Dec.{eqb, ltb, leb}
use lib.ListN.{length}
use borrow.Author.Tests.{eqb-true, eqb-false, eq-eqb, ne_eqb, ltb-true, leb-true}
use Rattle.ground_rules.specs.Choice.{pick}
use Rattle.listing_rules.specs.Characters.{same_text}
use Rattle.listing_rules.specs.Entries.{OperandKind, Entry, entries}
use Rattle.listing_rules.specs.Entries.OperandKind.{'R, 'G, 'P, 'M, 'byte, 'word, 'bit, 'width, 'short, 'long}
use Rattle.assembly_rules.specs.Operands.{Written, takes, takes_all, has_word, Chosen, entry_in}
use Rattle.assembly_rules.specs.Operands.Chosen.{taken, untaken}
use Rattle.assembly_rules.proofs.WritingLaws.{both_left, both_right}
use Rattle.assembly_rules.proofs.ScanLaws.{same-is}
use Rattle.std.specs.Prelude.{Option, Some, None, is_some, count_by}
use Rattle.std.specs.List.{find}
use Rattle.assembler_forms.specs.declared.operands.Form.{Form}
use Rattle.assembler_forms.specs.declared.operands.Form.TheVariants.{Register, Memory, Offset, Value}
use Rattle.assembler_forms.specs.declared.operands.Indexing.TheVariants.{Plain, Indexed, Stepped}
use Rattle.assembler_forms.specs.declared.operands.Operands.{Operands}
use Rattle.assembler_forms.specs.declared.table.EntryCode.{EntryCode}
use Rattle.assembler_forms.specs.declared.table.PlaceKind.{PlaceKind}
use Rattle.assembler_forms.specs.declared.table.PlaceKind.TheVariants as kind
use Rattle.assembler_forms.specs.Forms.{Formed, written_form}
use Rattle.assembler_forms.specs.Rows.{FormsAre, RowIs, OperandRow}
use Rattle.assembler_forms.specs.Rows.FormsAre.{none as no-forms, one as one-form, two as two-forms, three as three-forms}
use Rattle.assembler_forms.specs.Rows.RowIs.{none, one, two, three, more}
use Rattle.assembler_forms.specs.Table.{packed_word, word_number, in_bytes, NumberIs, kind_code, kinds_code, entry_code, coded, codes_by, kind_of, kind_from, kinds_in, place_takes, places_take, code_takes}

byte-first : (c : ℕ) (cs : List ℕ) → in_bytes (c ∷ cs) ≡ true → c < 256
unfolding in_bytes
byte-first c cs h = ltb-true c 256 (both_left (ltb c 256) (in_bytes cs) h)

byte-rest : (c : ℕ) (cs : List ℕ) → in_bytes (c ∷ cs) ≡ true → in_bytes cs ≡ true
unfolding in_bytes
byte-rest c cs h = both_right (ltb c 256) (in_bytes cs) h

packed-some : (cs : List ℕ) → 1 ≤ packed_word cs
unfolding packed_word
packed-some [] = omega arith
packed-some (c ∷ cs) = omega (arith, packed-some cs)

-- bytes are told by their number
packed-same : (a b : List ℕ) → in_bytes a ≡ true → in_bytes b ≡ true → eqb (packed_word b) (packed_word a) ≡ same_text a b
unfolding packed_word same_text
packed-same [] [] h k = refl
packed-same [] (d ∷ b) h k = ne_eqb (d % 256 + 256 * packed_word b) 1 (λ z. omega (arith, packed-some b, z))
packed-same (c ∷ a) [] h k = ne_eqb 1 (c % 256 + 256 * packed_word a) (λ z. omega (arith, packed-some a, z))
packed-same (c ∷ a) (d ∷ b) h k = go (eqb c d) refl (packed-same a b (byte-rest c a h) (byte-rest d b k))
  where
    lc : c < 256
    lc = byte-first c a h

    ld : d < 256
    ld = byte-first d b k

    ec : c % 256 ≡ c
    ec = mod-eq_of_lt lc

    ed : d % 256 ≡ d
    ed = mod-eq_of_lt ld

    go : (t : Bool) → eqb c d ≡ t → eqb (packed_word b) (packed_word a) ≡ same_text a b → eqb (d % 256 + 256 * packed_word b) (c % 256 + 256 * packed_word a) ≡ t && same_text a b
    go true e later = same (eqb-true c d e) (eqb (packed_word b) (packed_word a)) refl ∙ later
      where
        same : c ≡ d → (u : Bool) → eqb (packed_word b) (packed_word a) ≡ u → eqb (d % 256 + 256 * packed_word b) (c % 256 + 256 * packed_word a) ≡ eqb (packed_word b) (packed_word a)
        same z true f = let q = eqb-true (packed_word b) (packed_word a) f in let all : d % 256 + 256 * packed_word b ≡ c % 256 + 256 * packed_word a = omega (arith, ec, ed, z, q) in eq-eqb (d % 256 + 256 * packed_word b) (c % 256 + 256 * packed_word a) all ∙ sym f
        same z false f = ne_eqb (d % 256 + 256 * packed_word b) (c % 256 + 256 * packed_word a) (λ y. eqb-false (packed_word b) (packed_word a) f (omega (arith, ec, ed, lc, ld, z, y))) ∙ sym f
    go false e later = ne_eqb (d % 256 + 256 * packed_word b) (c % 256 + 256 * packed_word a) (λ y. eqb-false c d e (omega (arith, ec, ed, lc, ld, y)))

unfoldable pub kind_at : ℕ → List OperandKind → ℕ
kind_at n [] = 0
kind_at zero (k ∷ ks) = kind_code k
kind_at (suc n) (k ∷ ks) = kind_at n ks

-- a test that each of some entries passes
unfoldable pub each_entry : (Entry → Bool) → List Entry → Bool
each_entry test [] = true
each_entry test (e ∷ es) = test e && each_entry test es

-- an entry of which the number's digits are right, that has at most three places, and whose word is told by its number
pub right_entry : Entry → Bool
right_entry e =
    eqb (entry_code e / 0x10000000 % 16) (kind_at 0 e.kinds)
    && (eqb (entry_code e / 0x1000000 % 16) (kind_at 1 e.kinds)
    && (eqb (entry_code e / 0x100000 % 16) (kind_at 2 e.kinds)
    && (leb (length e.kinds) 3 && (in_bytes e.word && (leb (length e.word) 6)))))

pub entries-right : each_entry right_entry entries ≡ true
unfolding each_entry right_entry entries entry_code kinds_code kind_at in_bytes
entries-right = refl

pub record Right (e : Entry) : Type 0 where
  pub first : entry_code e / 0x10000000 % 16 ≡ kind_at 0 e.kinds
  pub second : entry_code e / 0x1000000 % 16 ≡ kind_at 1 e.kinds
  pub third : entry_code e / 0x100000 % 16 ≡ kind_at 2 e.kinds
  pub few : length e.kinds ≤ 3
  pub bytes : in_bytes e.word ≡ true
  pub short : length e.word ≤ 6

pub right_so : (e : Entry) → right_entry e ≡ true → Right e
unfolding right_entry
right_so e a =
    let n = entry_code e in
    let ks = e.kinds in
    let b = both_right (eqb (n / 0x10000000 % 16) (kind_at 0 ks)) _ a in
    let c = both_right (eqb (n / 0x1000000 % 16) (kind_at 1 ks)) _ b in
    let d = both_right (eqb (n / 0x100000 % 16) (kind_at 2 ks)) _ c in
    let f = both_right (leb (length ks) 3) _ d in
    record {
      first = eqb-true (n / 0x10000000 % 16) (kind_at 0 ks) (both_left _ _ a);
      second = eqb-true (n / 0x1000000 % 16) (kind_at 1 ks) (both_left _ _ b);
      third = eqb-true (n / 0x100000 % 16) (kind_at 2 ks) (both_left _ _ c);
      few = leb-true (length ks) 3 (both_left _ _ d);
      bytes = both_left _ _ f;
      short = leb-true (length e.word) 6 (both_right (in_bytes e.word) _ f);
    }

right-first : (e : Entry) (es : List Entry) → each_entry right_entry (e ∷ es) ≡ true → Right e
unfolding each_entry
right-first e es h = right_so e (both_left (right_entry e) (each_entry right_entry es) h)

right-rest : (e : Entry) (es : List Entry) → each_entry right_entry (e ∷ es) ≡ true → each_entry right_entry es ≡ true
unfolding each_entry
right-rest e es h = both_right (right_entry e) (each_entry right_entry es) h

-- a kind as the code has it, by its digit
abbrev pub kind_told : OperandKind → PlaceKind
kind_told 'R = kind.Register
kind_told 'G = kind.General
kind_told 'P = kind.Pointer
kind_told 'M = kind.Memory
kind_told 'byte = kind.Byte
kind_told 'word = kind.Word
kind_told 'bit = kind.Bit
kind_told 'width = kind.Width
kind_told 'short = kind.Short
kind_told 'long = kind.Long

pub kind-back : (k : OperandKind) → kind_of (kind_told k) ≡ k
kind-back 'R = refl
kind-back 'G = refl
kind-back 'P = refl
kind-back 'M = refl
kind-back 'byte = refl
kind-back 'word = refl
kind-back 'bit = refl
kind-back 'width = refl
kind-back 'short = refl
kind-back 'long = refl

pub digit-told : (k : OperandKind) → kind_from (kind_code k) ≡ Some (kind_told k)
unfolding kind_from
digit-told 'R = refl
digit-told 'G = refl
digit-told 'P = refl
digit-told 'M = refl
digit-told 'byte = refl
digit-told 'word = refl
digit-told 'bit = refl
digit-told 'width = refl
digit-told 'short = refl
digit-told 'long = refl

pub digit-none : kind_from 0 ≡ None
unfolding kind_from
digit-none = refl

-- the kinds of places as the code has them: three, none behind the last
abbrev pub told_all : List OperandKind → List (Option PlaceKind)
told_all [] = None ∷ None ∷ None ∷ []
told_all (k ∷ []) = Some (kind_told k) ∷ None ∷ None ∷ []
told_all (k ∷ j ∷ []) = Some (kind_told k) ∷ Some (kind_told j) ∷ None ∷ []
told_all (k ∷ j ∷ i ∷ ks) = Some (kind_told k) ∷ Some (kind_told j) ∷ Some (kind_told i) ∷ []

digits-told : (ks : List OperandKind) → kind_from (kind_at 0 ks) ∷ kind_from (kind_at 1 ks) ∷ kind_from (kind_at 2 ks) ∷ [] ≡ told_all ks
unfolding kind_at
digits-told [] = rw digit-none
digits-told (k ∷ []) = rw (digit-told k, digit-none)
digits-told (k ∷ j ∷ []) = rw (digit-told k, digit-told j, digit-none)
digits-told (k ∷ j ∷ i ∷ ks) = rw (digit-told k, digit-told j, digit-told i)

pub kinds-told : (e : Entry) → Right e → kinds_in (coded e) ≡ told_all e.kinds
unfolding kinds_in
kinds-told e r = rw (r.first, r.second, r.third) (digits-told e.kinds)

-- what a place takes does not depend on the text
takes-form : (text : List ℕ) (k : OperandKind) (f : Form) → takes k (written_form [] f) ≡ takes k (written_form text f)
unfolding takes
takes-form text k (Register r) = refl
takes-form text k (Memory mm Plain) = refl
takes-form text k (Offset mm s) = refl
takes-form text k (Memory mm Indexed) = refl
takes-form text k (Memory mm Stepped) = refl
takes-form text k (Value s) = refl

place-told : (text : List ℕ) (k : OperandKind) (f : Option Form) (w : Written) → Formed text f w → place_takes (Some (kind_told k)) f ≡ takes k w
unfolding takes
place-told text k None w h = ap (takes k) h.same
place-told text k (Some f) w h = ap (λ (x : OperandKind). takes x (written_form [] f)) (kind-back k) ∙ takes-form text k f ∙ ap (takes k) h.same

and-false : (b : Bool) → b && false ≡ false
and-false true = refl
and-false false = refl

abbrev pub all_told : List OperandKind → ℕ → List (Option Form) → Bool
all_told ks n fs = eqb n (count_by is_some (told_all ks)) && places_take (told_all ks) fs

pub all_take : (text : List ℕ) (ks : List OperandKind) (n : ℕ) (fs : List (Option Form)) (ws : List Written) → length ks ≤ 3 → RowIs text n fs ws → all_told ks n fs ≡ takes_all ks ws
unfolding takes_all
all_take text [] n fs ws l none = refl
all_take text [] n fs ws l (one h) = refl
all_take text [] n fs ws l (two h i) = refl
all_take text [] n fs ws l (three h i j) = refl
all_take text [] n fs ws l (more h i j) = refl
all_take text (k ∷ []) n fs ws l none = refl
all_take text (k ∷ []) n fs ws l (one {f = f} {u = u} h) = rw (place-told text k f u h)
all_take text (k ∷ []) n fs ws l (two {u = u} h i) = rw (and-false (takes k u))
all_take text (k ∷ []) n fs ws l (three {u = u} h i j) = rw (and-false (takes k u))
all_take text (k ∷ []) n fs ws l (more {u = u} h i j) = rw (and-false (takes k u))
all_take text (k ∷ m ∷ []) n fs ws l none = refl
all_take text (k ∷ m ∷ []) n fs ws l (one {u = u} h) = rw (and-false (takes k u))
all_take text (k ∷ m ∷ []) n fs ws l (two {f = f} {g = g} {u = u} {v = v} h i) = rw (place-told text k f u h, place-told text m g v i)
all_take text (k ∷ m ∷ []) n fs ws l (three {u = u} {v = v} h i j) = rw (and-false (takes m v), and-false (takes k u))
all_take text (k ∷ m ∷ []) n fs ws l (more {u = u} {v = v} h i j) = rw (and-false (takes m v), and-false (takes k u))
all_take text (k ∷ m ∷ o ∷ []) n fs ws l none = refl
all_take text (k ∷ m ∷ o ∷ []) n fs ws l (one {u = u} h) = rw (and-false (takes k u))
all_take text (k ∷ m ∷ o ∷ []) n fs ws l (two {u = u} {v = v} h i) = rw (and-false (takes m v), and-false (takes k u))
all_take text (k ∷ m ∷ o ∷ []) n fs ws l (three {f = f} {g = g} {h = p} {u = u} {v = v} {w = w} h i j) = rw (place-told text k f u h, place-told text m g v i, place-told text o p w j)
all_take text (k ∷ m ∷ o ∷ []) n fs ws l (more {u = u} {v = v} {w = w} h i j) = rw (and-false (takes o w), and-false (takes m v), and-false (takes k u))
all_take text (k ∷ m ∷ o ∷ p ∷ ks) n fs ws l r = absurd (omega arith)

code-takes : (text : List ℕ) (e : Entry) (o : Operands) (ws : List Written) → Right e → OperandRow text o ws → code_takes (coded e) o ≡ takes_all e.kinds ws
unfolding code_takes
code-takes text e o ws r h = ap (λ (ks : List (Option PlaceKind)). eqb o.count (count_by is_some ks) && places_take ks o.forms) (kinds-told e r) ∙ all_take text e.kinds o.count o.forms ws r.few h

-- a word by its number
pub word_same : (w r : List ℕ) → in_bytes w ≡ true → length w ≤ 6 → {n : ℕ} → NumberIs n r → eqb n (packed_word w) ≡ same_text w r
unfolding word_number
word_same w r h l k = ap (λ (m : ℕ). eqb m (packed_word w)) k.number ∙ go (ltb 6 (length r)) refl
  where
    other : (b : Bool) → same_text w r ≡ b → 6 < length r → false ≡ b
    other true e m = absurd (omega (arith, l, m, ap length (same-is w r e)))
    other false e m = refl

    go : (b : Bool) → ltb 6 (length r) ≡ b → eqb (pick b 0 (packed_word r)) (packed_word w) ≡ same_text w r
    go true e = ne_eqb 0 (packed_word w) (λ z. omega (arith, packed-some w, z)) ∙ other (same_text w r) refl (ltb-true 6 (length r) e)
    go false e = packed-same w r h k.bytes

-- what the code chooses: the entry's number, or none
abbrev pub chosen_code : Chosen → Option EntryCode
chosen_code (taken e) = Some (coded e)
chosen_code untaken = None

pub takes-length : (ks : List OperandKind) (ws : List Written) → takes_all ks ws ≡ true → length ks ≡ length ws
unfolding takes_all
takes-length [] [] h = refl
takes-length [] (w ∷ ws) h = absurd (false≢true h)
takes-length (k ∷ ks) [] h = absurd (false≢true h)
takes-length (k ∷ ks) (w ∷ ws) h = ap suc (takes-length ks ws (both_right (takes k w) (takes_all ks ws) h))

-- operands that places take: none of them is no operand, and all are counted
pub record RowTaken (text : List ℕ) (n : ℕ) (fs : List (Option Form)) (ws : List Written) : Type 0 where
  pub count : n ≡ length ws
  pub forms : FormsAre text fs ws

no-first : {A : Type 0} (text : List ℕ) (ks : List OperandKind) (w : Written) (ws : List Written) → Formed text None w → takes_all ks (w ∷ ws) ≡ true → A
unfolding takes_all takes
no-first text [] w ws h t = absurd (false≢true t)
no-first text (k ∷ ks) w ws h t = absurd (false≢true (ap (takes k) h.same ∙ both_left (takes k w) (takes_all ks ws) t))

taken-rest : (ks : List OperandKind) (w : Written) (ws : List Written) → takes_all ks (w ∷ ws) ≡ true → (js : List OperandKind) × (takes_all js ws ≡ true)
unfolding takes_all
taken-rest [] w ws t = absurd (false≢true t)
taken-rest (k ∷ ks) w ws t = (ks, both_right (takes k w) (takes_all ks ws) t)

pub row-taken : (text : List ℕ) (n : ℕ) (fs : List (Option Form)) (ws : List Written) (ks : List OperandKind) → length ks ≤ 3 → takes_all ks ws ≡ true → RowIs text n fs ws → RowTaken text n fs ws
row-taken text n fs ws ks l t none = record { count = refl; forms = no-forms }
row-taken text n fs ws ks l t (one {f = None} {u = u} h) = no-first text ks u [] h t
row-taken text n fs ws ks l t (one {f = Some f} h) = record { count = refl; forms = one-form h }
row-taken text n fs ws ks l t (two {f = None} {u = u} {v = v} h i) = no-first text ks u (v ∷ []) h t
row-taken text n fs ws ks l t (two {f = Some f} {g = None} {u = u} {v = v} h i) = let r = taken-rest ks u (v ∷ []) t in no-first text r.0 v [] i r.1
row-taken text n fs ws ks l t (two {f = Some f} {g = Some g} h i) = record { count = refl; forms = two-forms h i }
row-taken text n fs ws ks l t (three {f = None} {u = u} {v = v} {w = w} h i j) = no-first text ks u (v ∷ w ∷ []) h t
row-taken text n fs ws ks l t (three {f = Some f} {g = None} {u = u} {v = v} {w = w} h i j) = let r = taken-rest ks u (v ∷ w ∷ []) t in no-first text r.0 v (w ∷ []) i r.1
row-taken text n fs ws ks l t (three {f = Some f} {g = Some g} {h = None} {u = u} {v = v} {w = w} h i j) =
    let r = taken-rest ks u (v ∷ w ∷ []) t in
    let q = taken-rest r.0 v (w ∷ []) r.1 in
    no-first text q.0 w [] j q.1
row-taken text n fs ws ks l t (three {f = Some f} {g = Some g} {h = Some o} h i j) = record { count = refl; forms = three-forms h i j }
row-taken text n fs ws ks l t (more {u = u} {v = v} {w = w} {x = x} {ws = rest} h i j) = absurd (omega (arith, l, takes-length ks (u ∷ v ∷ w ∷ x ∷ rest) t))

module _ (r : List ℕ) (n : ℕ) (k : NumberIs n r) where
  -- the entry of a word with its operands, as the code has them
  chosen-from : (text : List ℕ) (o : Operands) (es : List Entry) (ws : List Written) → each_entry right_entry es ≡ true → OperandRow text o ws → find (λ (c : EntryCode). code_takes c o) (codes_by es n) ≡ chosen_code (entry_in es r ws)
  unfolding codes_by entry_in
  chosen-from text o [] ws h m = refl
  chosen-from text o (e ∷ es) ws h m =
      let right = right-first e es h in
      go (eqb n (packed_word e.word)) (same_text e.word r) (takes_all e.kinds ws) (word_same e.word r right.bytes right.short k) (code-takes text e o ws right m) (chosen-from text o es ws (right-rest e es h) m)
    where
      go : (x y z : Bool) → x ≡ y → code_takes (coded e) o ≡ z → find (λ (c : EntryCode). code_takes c o) (codes_by es n) ≡ chosen_code (entry_in es r ws)
          → find (λ (c : EntryCode). code_takes c o) (pick x (coded e ∷ codes_by es n) (codes_by es n)) ≡ chosen_code (pick (y && z) (taken e) (entry_in es r ws))
      go true true true p q later = rw q
      go true true false p q later = rw q later
      go true false z p q later = absurd (false≢true (sym p))
      go false true z p q later = absurd (false≢true p)
      go false false z p q later = later

  pub fitting-told : (text : List ℕ) (o : Operands) (ws : List Written) → OperandRow text o ws → find (λ (c : EntryCode). code_takes c o) (codes_by entries n) ≡ chosen_code (entry_in entries r ws)
  fitting-told text o ws h = chosen-from text o entries ws entries-right h

  -- and whether a word has entries
  has-from : (es : List Entry) → each_entry right_entry es ≡ true → has_word es r ≡ not (eqb (length (codes_by es n)) 0)
  unfolding codes_by has_word
  has-from [] h = refl
  has-from (e ∷ es) h = let right = right-first e es h in go (eqb n (packed_word e.word)) (same_text e.word r) (word_same e.word r right.bytes right.short k) (has-from es (right-rest e es h))
    where
      go : (x y : Bool) → x ≡ y → has_word es r ≡ not (eqb (length (codes_by es n)) 0) → y || has_word es r ≡ not (eqb (length (pick x (coded e ∷ codes_by es n) (codes_by es n))) 0)
      go true true p later = sym (ap not (ne_eqb (length (coded e ∷ codes_by es n)) 0 (λ z. omega arith)))
      go true false p later = absurd (false≢true (sym p))
      go false true p later = absurd (false≢true p)
      go false false p later = later

  pub word-told : (codes : List EntryCode) → codes ≡ codes_by entries n → has_word entries r ≡ not (eqb (length codes) 0)
  word-told codes e = has-from entries entries-right ∙ ap (λ (cs : List EntryCode). not (eqb (length cs) 0)) (sym e)
