-- A listing gives its bytes back: two parts with the same listing from the same address are the same.
-- Assumes nothing.
use Rattle.std.proofs.Common.{Ok, Some}
use mathlib.Core.Path.{◌≡◌, refl, sym, ap, subst, ◌∙◌}
use mathlib.Core.Bool.{Bool, true, false, not, ◌&&◌, ◌||◌, false≢true}
use mathlib.Core.List.{List, [], ◌∷◌, ◌++◌, append_assoc, append-nil}
use Prim.Native.Nat.{ℕ, zero, suc, ◌+◌, ◌≤◌, ◌<◌}
use native.Mathlib.Omega.{arith}
use lib.Dec.{T, eqb, ltb}
use lib.ListN.{length, get_or, take, drop, length-take, length-drop, length-append, take-append-drop, get_or-eq_default}
use lib.Seq.{get_or-take, get_or-drop}
use borrow.Author.Tests.{eqb-false, eq-eqb, ltb-true, ltb-false}
use Rattle.instruction_rules.specs.Pairs.{pair_of}
use Rattle.instruction_rules.specs.declared.Memory.{Memory}
use Rattle.instruction_rules.specs.declared.Pair.{Pair}
use Rattle.instruction_rules.specs.declared.Shape.{Shape}
use Rattle.instruction_rules.specs.declared.Shape.TheVariants.{MovMemory}
use Rattle.instruction_rules.specs.Lengths.{offset_length, length_of}
use Rattle.instruction_rules.proofs.LengthLaws.{bounded}
use Rattle.listing_rules.specs.Characters.{ascii, same_text}
use Rattle.listing_rules.specs.Mnemonics.{is_listed, mnemonic_of}
use Rattle.listing_rules.specs.Forms.{slots_of, after_offset, filled, spelled, following}
use Rattle.listing_rules.specs.Forms.Operand.{none, register, memory, number, digit}
use Rattle.listing_rules.specs.Forms as Forms
use Rattle.listing_rules.specs.Lines.{line_with, instruction_line, data_items, data_line}
use Rattle.listing_rules.specs.declared.Slot.TheVariants.{Place}
use Rattle.listing_rules.proofs.LineLaws.{and_left, and_right}
use Rattle.listing_rules.proofs.SpellingLaws.{is_mark, clean, cut, present, marks, spellings, read_all, Bytes, legible-byte, Readable, legible, readable, AllReadable, also, cut-marks, read_back, clean_of}
use Rattle.listing_rules.proofs.EntryLaws.{Known, Placed, known}
use Rattle.listing_rules.specs.Back.{operands_of}
use Rattle.listing_rules.specs.declared.Item.{Item}
use Rattle.listing_rules.specs.declared.Item.TheVariants.{Whole, Byte, End}
use Rattle.listing_rules.specs.Items.{to_of, item_of, count_of}
use Rattle.listing_rules.specs.Listings.{chars_of, line_at, lines_of, all_chars}
use Rattle.listing_rules.proofs.ItemLaws.{mov-length}
use Rattle.listing_rules.proofs.RowLaws.{WholeAt, whole-at, count-some, count-there}
use Rattle.listing_rules.proofs.ListLaws.{lines_next, lines_none}
use Rattle.listing_rules.proofs.Theorems.{proper-item}
use Rattle.listing_rules.proofs.BackLaws.{slot_bytes, spread, fill, same-slots, Follows, covered, two-more, all-covered, listed, chained, pair-bytes, second_pair, second-fields, second-placed, other-shape, to_none, Pairs, one, two, pairs}

-- a line as a word and operands that can be read
pub record Spoken (chars word : List ℕ) (os : List Forms.Operand) : Type 0 where
  pub plain : T (clean word)
  pub fine : AllReadable os
  pub text : chars ≡ (word ++ marks 32 os) ++ (10 ∷ [])

pub spoken-line : (bytes : List ℕ) (end : ℕ) (p : Pair) (s : Shape) (to : Memory) → Known p s to → Bytes bytes → Spoken (instruction_line bytes end s to) (mnemonic_of s) (operands_of s to bytes end)
unfolding instruction_line line_with marks operands_of
spoken-line bytes end p s to k h =
    let a = slots_of s to in
    record {
      plain = k.word;
      fine = also (readable bytes end a.first h k.fair.0) (also (readable bytes end a.second h k.fair.1.0) (also (readable bytes end a.third h k.fair.1.1) AllReadable.end));
      text = simp (append_assoc, append-nil);
    }

-- the operands of a DB line
unfoldable pub numbers : List ℕ → List Forms.Operand
numbers [] = []
numbers (b ∷ bytes) = number (b ∷ []) ∷ numbers bytes

items-marks : (m : ℕ) (bytes : List ℕ) → data_items m bytes ≡ marks m (numbers bytes)
unfolding data_items marks following numbers spelled
items-marks m [] = refl
items-marks m (b ∷ bytes) = rw (items-marks 44 bytes)

data-readable : (bytes : List ℕ) → Bytes bytes → AllReadable (numbers bytes)
unfolding numbers Bytes
data-readable [] h = AllReadable.end
data-readable (b ∷ bytes) h = also (legible (legible-byte b (h 0))) (data-readable bytes (λ i. h (suc i)))

pub spoken-data : (bytes : List ℕ) → Bytes bytes → Spoken (data_line bytes) (ascii "DB") (numbers bytes)
unfolding data_line clean is_mark
spoken-data bytes h = record { plain = tt; fine = data-readable bytes h; text = rw (items-marks 32 bytes) }

numbers-same : (x y : List ℕ) → numbers x ≡ numbers y → x ≡ y
unfolding numbers
numbers-same [] [] e = refl
numbers-same [] (b ∷ y) e = let z : ◌≡◌ {A = ℕ} 0 1 = cc in absurd (eqb-false 0 1 refl z)
numbers-same (b ∷ x) [] e = let z : ◌≡◌ {A = ℕ} 0 1 = cc in absurd (eqb-false 0 1 refl z)
numbers-same (b ∷ x) (c ∷ y) e =
    let f : b ≡ c = cc in
    let g : numbers x ≡ numbers y = cc in
    rw (f, numbers-same x y g)

pub numbers-present : (x : List ℕ) → present (numbers x) ≡ numbers x
unfolding numbers present
numbers-present [] = refl
numbers-present (b ∷ x) = rw (numbers-present x)

-- a text without a line feed
unfoldable pub free : List ℕ → Bool
free [] = true
free (c ∷ cs) = not (eqb c 10) && free cs

no-feed : (c : ℕ) → T (not (is_mark c)) → T (not (eqb c 10))
unfolding is_mark
no-feed c t = go (eqb c 32) (eqb c 44) (eqb c 10) t
  where
    go : (a b d : Bool) → T (not (a || (b || d))) → T (not d)
    go true b d u = absurd u
    go false true d u = absurd u
    go false false true u = u
    go false false false u = tt

and_both : (a b : Bool) → T a → T b → T (a && b)
and_both true b t u = u
and_both false b t u = absurd t

clean_free : (w : List ℕ) → T (clean w) → T (free w)
unfolding clean free
clean_free [] t = tt
clean_free (c ∷ w) t = and_both (not (eqb c 10)) (free w) (no-feed c (and_left (not (is_mark c)) (clean w) t)) (clean_free w (and_right (not (is_mark c)) (clean w) t))

append-free : (a b : List ℕ) → T (free a) → T (free b) → T (free (a ++ b))
unfolding free
append-free [] b t u = u
append-free (c ∷ a) b t u = and_both (not (eqb c 10)) (free (a ++ b)) (and_left (not (eqb c 10)) (free a) t) (append-free a b (and_right (not (eqb c 10)) (free a) t) u)

following-free : (m : ℕ) (o : Forms.Operand) → T (not (eqb m 10)) → Readable o → T (free (following m o))
unfolding following free
following-free m none h r = tt
following-free m (register a) h r = and_both (not (eqb m 10)) (free (spelled (register a))) h (clean_free (spelled (register a)) (clean_of r))
following-free m (memory a b c) h r = and_both (not (eqb m 10)) (free (spelled (memory a b c))) h (clean_free (spelled (memory a b c)) (clean_of r))
following-free m (number a) h r = and_both (not (eqb m 10)) (free (spelled (number a))) h (clean_free (spelled (number a)) (clean_of r))
following-free m (digit a) h r = and_both (not (eqb m 10)) (free (spelled (digit a))) h (clean_free (spelled (digit a)) (clean_of r))

marks-free : (m : ℕ) (os : List Forms.Operand) → T (not (eqb m 10)) → AllReadable os → T (free (marks m os))
unfolding marks free
marks-free m [] h AllReadable.end = tt
marks-free m (o ∷ os) h (also r rs) = append-free (following m o) (marks 44 os) (following-free m o h r) (marks-free 44 os tt rs)

pub spoken-free : {chars word : List ℕ} {os : List Forms.Operand} → Spoken chars word os → T (free (word ++ marks 32 os))
spoken-free {chars} {word} {os} x = append-free word (marks 32 os) (clean_free word x.plain) (marks-free 32 os tt x.fine)

not-feed : (c : ℕ) → T (not (eqb c 10)) → c ≡ 10 → ⊥
not-feed c t e = go (eqb c 10) (eq-eqb c 10 e) t
  where
    go : (b : Bool) → b ≡ true → T (not b) → ⊥
    go true f u = u
    go false f u = false≢true f

-- a text is cut in one way at its first line feed
split-line : (f g r s : List ℕ) → T (free f) → T (free g) → f ++ (10 ∷ r) ≡ g ++ (10 ∷ s) → (f ≡ g) × (r ≡ s)
unfolding free
split-line [] [] r s t u e = (refl, cc)
split-line [] (c ∷ g) r s t u e = let z : c ≡ 10 = cc in absurd (not-feed c (and_left (not (eqb c 10)) (free g) u) z)
split-line (c ∷ f) [] r s t u e = let z : c ≡ 10 = cc in absurd (not-feed c (and_left (not (eqb c 10)) (free f) t) z)
split-line (c ∷ f) (d ∷ g) r s t u e =
    let h : c ≡ d = cc in
    let i : f ++ (10 ∷ r) ≡ g ++ (10 ∷ s) = cc in
    let j = split-line f g r s (and_right (not (eqb c 10)) (free f) t) (and_right (not (eqb d 10)) (free g) u) i in
    (rw (h, j.0), j.1)

mark-blank : is_mark 32 ≡ true
unfolding is_mark
mark-blank = refl

-- equal lines have equal words and operands, and what follows them is equal
spoken-same : (a b : List ℕ) {w v : List ℕ} {os ps : List Forms.Operand} (r s : List ℕ) → Spoken a w os → Spoken b v ps → a ++ r ≡ b ++ s → (w ≡ v) × (present os ≡ present ps) × (r ≡ s)
spoken-same a b {w} {v} {os} {ps} r s x y e =
    let f = w ++ marks 32 os in
    let g = v ++ marks 32 ps in
    let ef : f ++ (10 ∷ r) ≡ g ++ (10 ∷ s) =
    sym (append_assoc f (10 ∷ []) r) ∙ ap (λ (l : List ℕ). l ++ r) (sym x.text) ∙ e ∙ ap (λ (l : List ℕ). l ++ s) y.text ∙ append_assoc g (10 ∷ []) s in
    let two = split-line f g r s (spoken-free x) (spoken-free y) ef in
    let c : w ∷ spellings (present os) ≡ v ∷ spellings (present ps) =
    sym (cut-marks w 32 os x.plain mark-blank x.fine) ∙ ap cut two.0 ∙ cut-marks v 32 ps y.plain mark-blank y.fine in
    let word : w ≡ v = cc in
    let texts : spellings (present os) ≡ spellings (present ps) = cc in
    (word, sym (read_back os x.fine) ∙ ap read_all texts ∙ read_back ps y.fine, two.1)

-- the two bytes of the first pair
pub first-pair : (bytes : List ℕ) → 2 ≤ length bytes → take 2 bytes ≡ get_or bytes 0 0 ∷ get_or bytes 1 0 ∷ []
first-pair bytes h = sym (two-more bytes 0 (omega arith))

-- MOV M,M in its four parts
pub mov-covered : (bytes : List ℕ) (m to : Memory) (n : ℕ) → n ≡ length_of (MovMemory m) + offset_length to → n ≤ length bytes
    → ((take 2 bytes ++ slot_bytes bytes (Place m 2)) ++ (get_or bytes (2 + offset_length m) 0 ∷ get_or bytes (3 + offset_length m) 0 ∷ [])) ++ slot_bytes bytes (Place to (after_offset m + 2)) ≡ take n bytes
unfolding Follows after_offset
mov-covered bytes m to n e h =
    let o = offset_length m in
    let size = mov-length m in
    let third : 3 + o ≡ 2 + o + 1 = omega arith in
    ap (λ (l : List ℕ). (l ++ (get_or bytes (2 + o) 0 ∷ get_or bytes (3 + o) 0 ∷ [])) ++ slot_bytes bytes (Place to (2 + o + 2))) (covered bytes 2 (Place m 2) (2 + o) (refl, refl) (omega arith))
    ∙ rw third (ap (λ (l : List ℕ). l ++ slot_bytes bytes (Place to (2 + o + 2))) (two-more bytes (2 + o) (omega arith)) ∙ covered bytes (2 + o + 2) (Place to (2 + o + 2)) n (refl, omega arith) h)

placed_by : (bytes : List ℕ) (s : Shape) (to : Memory) → Pairs s → to_of bytes s ≡ Some to → Placed to
unfolding to_of
placed_by bytes s to (one other) e = rw (to_none s other bytes to e) (omega arith, omega arith)
placed_by bytes s to (two m) e = second-placed (get_or bytes (2 + offset_length m) 0) (get_or bytes (3 + offset_length m) 0) m.wide to e

pub placed-to : (bytes : List ℕ) (s : Shape) (to : Memory) → to_of bytes s ≡ Some to → Placed to
placed-to bytes s to e = placed_by bytes s to (pairs s) e

module _ (address : ℕ) (x y : List ℕ) (hx : Bytes x) (hy : Bytes y) where
  -- two of MOV M,M
  same_move : (m to to2 : Memory) (n n2 : ℕ) → WholeAt x (MovMemory m) to n → WholeAt y (MovMemory m) to2 n2 → 2 ≤ length x → 2 ≤ length y → get_or x 0 0 ≡ get_or y 0 0 → get_or x 1 0 ≡ get_or y 1 0
      → present (operands_of (MovMemory m) to x (address + n)) ≡ present (operands_of (MovMemory m) to2 y (address + n2)) → take n x ≡ take n2 y
  unfolding operands_of slots_of filled present to_of slot_bytes Bytes offset_length second_pair
  same_move m to to2 n n2 wx wy lx ly e0 e1 ops =
      let k = 2 + offset_length m in
      let j = 3 + offset_length m in
      let a : to.mm ≡ to2.mm = cc in
      let b : to.aa ≡ to2.aa = cc in
      let c : slot_bytes x (Place m 2) ≡ slot_bytes y (Place m 2) = cc in
      let d : slot_bytes x (Place to (after_offset m + 2)) ≡ slot_bytes y (Place to2 (after_offset m + 2)) = cc in
      let px = second-fields (get_or x k 0) (get_or x j 0) m.wide to wx.second in
      let py = second-fields (get_or y k 0) (get_or y j 0) m.wide to2 wy.second in
      let pp : pair_of (get_or x k 0) (get_or x j 0) ≡ pair_of (get_or y k 0) (get_or y j 0) = px ∙ rw (a, b) (sym py) in
      let q = pair-bytes (get_or x k 0) (get_or x j 0) (get_or y k 0) (get_or y j 0) (hx k) (hx j) (hy k) (hy j) pp in
      let f : take 2 x ≡ take 2 y = first-pair x lx ∙ rw (e0, e1) (sym (first-pair y ly)) in
      sym (mov-covered x m to n wx.size wx.there) ∙ rw (f, c, q.0, q.1, d) (mov-covered y m to2 n2 wy.size wy.there)

  -- two instructions of one shape with equal operands
  same_shape : (s : Shape) (to to2 : Memory) (n n2 : ℕ) → Pairs s → WholeAt x s to n → WholeAt y s to2 n2 → 2 ≤ length x → 2 ≤ length y → get_or x 0 0 ≡ get_or y 0 0 → get_or x 1 0 ≡ get_or y 1 0
      → present (operands_of s to x (address + n)) ≡ present (operands_of s to2 y (address + n2)) → take n x ≡ take n2 y
  unfolding operands_of listed fill
  same_shape s to to2 n n2 (one other) wx wy lx ly e0 e1 ops =
      let ex = to_none s other x to wx.second in
      let ey = to_none s other y to2 wy.second in
      let same-to : to ≡ to2 = ex ∙ sym ey in
      let same-n : n ≡ n2 = wx.size ∙ ap (λ (m : Memory). length_of s + offset_length m) same-to ∙ sym wy.size in
      let places = listed (slots_of s to) in
      let equal : present (fill x (address + n) places) ≡ present (fill y (address + n) places) = rw (sym same-to, sym same-n) at ops in
      let middle = same-slots x y (address + n) places hx hy equal in
      let cx = all-covered x 2 n places (rw (sym wx.size) at (chained x s to wx.second (other-shape s other))) wx.there in
      let to-y : to_of y s ≡ Some to = wy.second ∙ ap Some (sym same-to) in
      let cy = all-covered y 2 n places (rw (sym wx.size) at (chained y s to to-y (other-shape s other))) (omega (arith, wy.there, same-n)) in
      let f : take 2 x ≡ take 2 y = first-pair x lx ∙ rw (e0, e1) (sym (first-pair y ly)) in
      sym cx ∙ ap (λ (l : List ℕ). l ++ spread x places) f ∙ ap (λ (l : List ℕ). take 2 y ++ l) middle ∙ cy ∙ ap (λ (k : ℕ). take k y) same-n
  same_shape s to to2 n n2 (two m) wx wy lx ly e0 e1 ops = same_move m to to2 n n2 wx wy lx ly e0 e1 ops

  -- two instructions with equal lines
  same_whole : (s s2 : Shape) (to to2 : Memory) (n n2 : ℕ) (r r2 : List ℕ) → item_of x ≡ Whole s to n → item_of y ≡ Whole s2 to2 n2 → is_listed s ≡ true → is_listed s2 ≡ true
      → instruction_line x (address + n) s to ++ r ≡ instruction_line y (address + n2) s2 to2 ++ r2 → (take n x ≡ take n2 y) × (r ≡ r2)
  unfolding Bytes
  same_whole s s2 to to2 n n2 r r2 ix iy lx ly e =
      let wx = whole-at x s to n ix in
      let wy = whole-at y s2 to2 n2 iy in
      let kx = known (get_or x 0 0) (get_or x 1 0) s to wx.pair (placed-to x s to wx.second) lx in
      let ky = known (get_or y 0 0) (get_or y 1 0) s2 to2 wy.pair (placed-to y s2 to2 wy.second) ly in
      let same = spoken-same (instruction_line x (address + n) s to) (instruction_line y (address + n2) s2 to2) r r2 (spoken-line x (address + n) (pair_of (get_or x 0 0) (get_or x 1 0)) s to kx hx) (spoken-line y (address + n2) (pair_of (get_or y 0 0) (get_or y 1 0)) s2 to2 ky hy) e in
      let pp : pair_of (get_or x 0 0) (get_or x 1 0) ≡ pair_of (get_or y 0 0) (get_or y 1 0) = sym (kx.pair x (address + n)) ∙ rw (same.0, same.1) (ky.pair y (address + n2)) in
      let q = pair-bytes (get_or x 0 0) (get_or x 1 0) (get_or y 0 0) (get_or y 1 0) (hx 0) (hx 1) (hy 0) (hy 1) pp in
      let d : Ok s ≡ Ok s2 = sym wx.pair ∙ rw (q.0, q.1) wy.pair in
      let es : s ≡ s2 = cc in
      let wy2 : WholeAt y s to2 n2 = subst (λ (z : Shape). WholeAt y z to2 n2) (sym es) wy in
      let ops : present (operands_of s to x (address + n)) ≡ present (operands_of s to2 y (address + n2)) = same.1 ∙ ap (λ (z : Shape). present (operands_of z to2 y (address + n2))) (sym es) in
      let bx = bounded s in
      (same_shape s to to2 n n2 (pairs s) wx wy2 (omega (arith, bx, wx.size, wx.there)) (omega (arith, bx, wy2.size, wy2.there)) q.0 q.1 ops, same.2)

-- a line of a word with operands, or of bytes
pub data Line (address : ℕ) (x : List ℕ) : Type 0 where
  words : (s : Shape) (to : Memory) (n : ℕ) → item_of x ≡ Whole s to n → is_listed s ≡ true → chars_of address x (item_of x) ≡ instruction_line x (address + n) s to → Line address x
  raw : chars_of address x (item_of x) ≡ data_line (take (count_of (item_of x)) x) → Line address x

line-by : (address : ℕ) (x : List ℕ) (i : Item) → item_of x ≡ i → Line address x
unfolding chars_of
line-by address x Byte e = raw (rw e)
line-by address x End e = raw (rw e)
line-by address x (Whole s to n) e = go (is_listed s) refl
  where
    go : (b : Bool) → is_listed s ≡ b → Line address x
    go true l = words s to n e l (rw (e, l))
    go false l = raw (rw (e, l))

pub line_of : (address : ℕ) (x : List ℕ) → Line address x
line_of address x = line-by address x (item_of x) refl

within : (k : ℕ) (x : List ℕ) (i : ℕ) → k ≤ i → length (take k x) ≤ i
within k x i h = omega (arith, length-take k x)

pub bytes_take : (k : ℕ) (x : List ℕ) → Bytes x → Bytes (take k x)
unfolding Bytes
bytes_take k x h i = go (ltb i k) refl
  where
    go : (b : Bool) → ltb i k ≡ b → get_or (take k x) i 0 < 256
    go true e = rw (get_or-take k x i 0 (ltb-true i k e)) (h i)
    go false e = let m = ltb-false i k e in rw (get_or-eq_default (take k x) 0 (within k x i m)) (omega arith)

pub bytes_drop : (k : ℕ) (x : List ℕ) → Bytes x → Bytes (drop k x)
unfolding Bytes
bytes_drop k x h i = rw (get_or-drop k x i 0) (h (k + i))

-- no instruction's word is DB
pub no_word : {A : Type 0} (p : Pair) (s : Shape) (to : Memory) → Known p s to → mnemonic_of s ≡ ascii "DB" → A
unfolding same_text
no_word p s to k e = absurd (false≢true (sym k.other ∙ ap (λ (w : List ℕ). same_text w (ascii "DB")) e))

same_line : (address : ℕ) (x y r r2 : List ℕ) → Bytes x → Bytes y → Line address x → Line address y → chars_of address x (item_of x) ++ r ≡ chars_of address y (item_of y) ++ r2
    → (take (count_of (item_of x)) x ≡ take (count_of (item_of y)) y) × (r ≡ r2)
same_line address x y r r2 hx hy (words s to n ix lx cx) (words s2 to2 n2 iy ly cy) e =
    let t = same_whole address x y hx hy s s2 to to2 n n2 r r2 ix iy lx ly (ap (λ (l : List ℕ). l ++ r) (sym cx) ∙ e ∙ ap (λ (l : List ℕ). l ++ r2) cy) in
    (rw (ix, iy) t.0, t.1)
same_line address x y r r2 hx hy (raw cx) (raw cy) e =
    let a = take (count_of (item_of x)) x in
    let b = take (count_of (item_of y)) y in
    let t = spoken-same (data_line a) (data_line b) r r2 (spoken-data a (bytes_take (count_of (item_of x)) x hx)) (spoken-data b (bytes_take (count_of (item_of y)) y hy)) (ap (λ (l : List ℕ). l ++ r) (sym cx) ∙ e ∙ ap (λ (l : List ℕ). l ++ r2) cy) in
    (numbers-same a b (sym (numbers-present a) ∙ t.1 ∙ numbers-present b), t.2)
same_line address x y r r2 hx hy (words s to n ix lx cx) (raw cy) e =
    let w = whole-at x s to n ix in
    let k = known (get_or x 0 0) (get_or x 1 0) s to w.pair (placed-to x s to w.second) lx in
    let b = take (count_of (item_of y)) y in
    let t = spoken-same (instruction_line x (address + n) s to) (data_line b) r r2 (spoken-line x (address + n) (pair_of (get_or x 0 0) (get_or x 1 0)) s to k hx) (spoken-data b (bytes_take (count_of (item_of y)) y hy)) (ap (λ (l : List ℕ). l ++ r) (sym cx) ∙ e ∙ ap (λ (l : List ℕ). l ++ r2) cy) in
    no_word (pair_of (get_or x 0 0) (get_or x 1 0)) s to k t.0
same_line address x y r r2 hx hy (raw cx) (words s to n iy ly cy) e =
    let w = whole-at y s to n iy in
    let k = known (get_or y 0 0) (get_or y 1 0) s to w.pair (placed-to y s to w.second) ly in
    let a = take (count_of (item_of x)) x in
    let t = spoken-same (data_line a) (instruction_line y (address + n) s to) r r2 (spoken-data a (bytes_take (count_of (item_of x)) x hx)) (spoken-line y (address + n) (pair_of (get_or y 0 0) (get_or y 1 0)) s to k hy) (ap (λ (l : List ℕ). l ++ r) (sym cx) ∙ e ∙ ap (λ (l : List ℕ). l ++ r2) cy) in
    no_word (pair_of (get_or y 0 0) (get_or y 1 0)) s to k (sym t.0)

-- a listing with a line is not empty
some-text : {A : Type 0} (address b : ℕ) (x : List ℕ) → [] ≡ all_chars (lines_of address (b ∷ x)) → A
unfolding all_chars line_at
some-text address b x e =
    let all = b ∷ x in
    let f : [] ≡ (line_at address all).chars ++ all_chars (lines_of (address + count_of (item_of all)) (drop (count_of (item_of all)) all)) = e ∙ ap all_chars (lines_next address all (λ h. omega arith)) in
    let p = proper-item address all (item_of all) refl in
    let c = ap length p.ends ∙ length-append p.front (10 ∷ []) in
    let g = ap length f ∙ length-append (line_at address all).chars (all_chars (lines_of (address + count_of (item_of all)) (drop (count_of (item_of all)) all))) in
    absurd (omega (arith, c, g))

no-chars : all_chars [] ≡ []
unfolding all_chars
no-chars = refl

same_step : (address : ℕ) (x y : List ℕ) → (length x ≡ 0 → ⊥) → (length y ≡ 0 → ⊥) → Bytes x → Bytes y → all_chars (lines_of address x) ≡ all_chars (lines_of address y)
    → (all_chars (lines_of (address + count_of (item_of x)) (drop (count_of (item_of x)) x)) ≡ all_chars (lines_of (address + count_of (item_of x)) (drop (count_of (item_of x)) y)) → drop (count_of (item_of x)) x ≡ drop (count_of (item_of x)) y)
    → x ≡ y
unfolding all_chars line_at
same_step address x y some-x some-y hx hy e later =
    let k = count_of (item_of x) in
    let j = count_of (item_of y) in
    let rx = all_chars (lines_of (address + k) (drop k x)) in
    let ry = all_chars (lines_of (address + j) (drop j y)) in
    let f : chars_of address x (item_of x) ++ rx ≡ chars_of address y (item_of y) ++ ry = sym (ap all_chars (lines_next address x some-x)) ∙ e ∙ ap all_chars (lines_next address y some-y) in
    let t = same_line address x y rx ry hx hy (line_of address x) (line_of address y) f in
    let same-k : k ≡ j = let a = ap length t.0 in omega (arith, a, length-take k x, length-take j y, count-there x some-x, count-there y some-y) in
    let rest : drop k x ≡ drop k y = later (t.1 ∙ ap (λ (i : ℕ). all_chars (lines_of (address + i) (drop i y))) (sym same-k)) in
    sym (take-append-drop k x) ∙ rw (t.0, rest, sym same-k) (take-append-drop k y)

same_by : (f address : ℕ) (x y : List ℕ) → length x ≤ f → Bytes x → Bytes y → all_chars (lines_of address x) ≡ all_chars (lines_of address y) → x ≡ y
same_by zero address [] [] h hx hy e = refl
same_by zero address [] (b ∷ y) h hx hy e = some-text address b y (sym (ap all_chars (lines_none address [] refl) ∙ no-chars) ∙ e)
same_by zero address (b ∷ x) y h hx hy e = absurd (omega arith)
same_by (suc f) address [] [] h hx hy e = refl
same_by (suc f) address [] (b ∷ y) h hx hy e = some-text address b y (sym (ap all_chars (lines_none address [] refl) ∙ no-chars) ∙ e)
same_by (suc f) address (b ∷ x) [] h hx hy e = some-text address b x (sym (ap all_chars (lines_none address [] refl) ∙ no-chars) ∙ sym e)
same_by (suc f) address (b ∷ x) (c ∷ y) h hx hy e =
    let ax = b ∷ x in
    let ay = c ∷ y in
    let k = count_of (item_of ax) in
    same_step address ax ay (λ z. omega arith) (λ z. omega arith) hx hy e (same_by f (address + k) (drop k ax) (drop k ay) (omega (arith, length-drop k ax, count-some ax (λ z. omega arith))) (bytes_drop k ax hx) (bytes_drop k ay hy))

-- two parts that have the same listing from the same first address are the same
pub unlisted : (first : ℕ) (x y : List ℕ) → Bytes x → Bytes y → all_chars (lines_of first x) ≡ all_chars (lines_of first y) → x ≡ y
unlisted first x y hx hy e = same_by (length x) first x y (omega arith) hx hy e
