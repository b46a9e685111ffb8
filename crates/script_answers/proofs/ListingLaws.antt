-- The text of a listing: what a part is, how long its lines are together, and that the lister put them at a buffer's start.
-- Assumes nothing.
use mathlib.Core.Bool.{Bool, true, false}
use mathlib.Core.List.{List, [], ◌∷◌, ◌++◌, append-nil}
use mathlib.Core.Path.{◌≡◌, refl, sym, ap, ap₂, ◌∙◌}
use Prim.Native.Nat.{ℕ, zero, suc, ◌+◌, ◌-◌, ◌*◌, ◌≤◌}
use native.Mathlib.Omega.{arith}
use borrow.Author.Tests.{leb-true}
use borrow.Rule.Slice.PartMut.{put_mid}
use lib.Dec.{leb}
use lib.ListN.{length, take, drop, length-append, length-take, length-drop, drop_of_length-le}
use lib.Seq.{take_all}
use Rattle.ground_rules.specs.Choice.{pick}
use Rattle.listing_rules.specs.Items.{item_of, count_of}
use Rattle.listing_rules.specs.Listings.{TextLine, lines_by, lines_of, all_chars, Listing, listing, listing_of}
use Rattle.listing_rules.proofs.Theorems.{Every, none, more, all-proper, all_fit}
use Rattle.page.specs.Pages.{page, written}
use Rattle.page.proofs.PageLaws.{put_behind}
use Rattle.script_lines.specs.Lines.{refused_line}
use Rattle.script_answers.specs.Machine.{is_part}
use Rattle.script_answers.specs.Shown.{listed_text}

-- ---- a part

-- what a part is
pub record Parted (s : List ℕ) (at count : ℕ) : Type 0 where
  pub some : 1 ≤ count
  pub few : count ≤ 1024
  pub there : at + count ≤ length s

pub parted : (s : List ℕ) (at count : ℕ) → is_part s at count ≡ true → Parted s at count
unfolding is_part
parted s at count = go (leb 1 count) (leb count 1024) (leb (at + count) (length s)) (leb-true 1 count) (leb-true count 1024) (leb-true (at + count) (length s))
  where
    go : (x y z : Bool) → (x ≡ true → 1 ≤ count) → (y ≡ true → count ≤ 1024) → (z ≡ true → at + count ≤ length s) → pick x (pick y z false) false ≡ true → Parted s at count
    go true true true p q r e = record { some = p refl; few = q refl; there = r refl }
    go true true false p q r e = absurd (let z : ◌≡◌ {A = ℕ} 0 1 = cc in omega arith)
    go true false z p q r e = absurd (let z : ◌≡◌ {A = ℕ} 0 1 = cc in omega arith)
    go false y z p q r e = absurd (let z : ◌≡◌ {A = ℕ} 0 1 = cc in omega arith)

-- ---- how long its lines are

-- lines of at most 28 characters
lines-short : {lines : List TextLine} → Every lines → length (all_chars lines) ≤ 28 * length lines
unfolding all_chars
lines-short none = omega arith
lines-short (more {line} {lines} p e) = omega (arith, length-append line.chars (all_chars lines), p.short, lines-short e)

-- no more lines than were allowed
lines-few : (most address : ℕ) (bytes : List ℕ) → length (lines_by most address bytes) ≤ most
unfolding lines_by
lines-few zero address bytes = omega arith
lines-few (suc most) address [] = omega arith
lines-few (suc most) address (b ∷ bytes) =
    let n = count_of (item_of (b ∷ bytes)) in
    omega (arith, lines-few most (address + n) (drop n (b ∷ bytes)))

-- the lines of a part
pub chars-short : (address : ℕ) (bytes : List ℕ) → length bytes ≤ 1024 → length (all_chars (lines_of address bytes)) ≤ 28672
unfolding lines_of
chars-short address bytes h = omega (arith, lines-short (all-proper address bytes), lines-few (length bytes) address bytes)

-- the text of a listing, made or not
pub listed-short : (s : List ℕ) (at count : ℕ) → length (listed_text s at count) ≤ 28672
unfolding listed_text
listed-short s at count = go (is_part s at count) refl
  where
    go : (b : Bool) → is_part s at count ≡ b → length (pick b (all_chars (lines_of at (take count (drop at s)))) refused_line) ≤ 28672
    go true e = chars-short at (take count (drop at s)) (omega (arith, length-take count (drop at s), (parted s at count e).few))
    go false e = omega arith

-- ---- what the lister leaves

-- of at most 1,024 bytes the lister puts all lines at the start of such a buffer, and no byte behind them changes
pub listed_there : (code : List ℕ) (first : ℕ) (before after : List ℕ) (characters stop : ℕ) → length code ≤ 1024 → 32768 ≤ length before
    → listing characters stop after ≡ listing_of code first before
    → (after ≡ all_chars (lines_of first code) ++ drop (length (all_chars (lines_of first code))) before) × (characters ≡ length (all_chars (lines_of first code)))
listed_there code first before after characters stop h room e =
    let short = chars-short first code h in
    let all = e ∙ all_fit code before first (omega arith) (omega arith) in
    (ap (λ (l : Listing). l.buffer) all, ap (λ (l : Listing). l.characters) all)

-- so those of a part
pub part_there : (s : List ℕ) (at count : ℕ) (before after : List ℕ) (characters stop : ℕ) → is_part s at count ≡ true → 32768 ≤ length before
    → listing characters stop after ≡ listing_of (take (at + count - at) (drop at s)) at before
    → (after ≡ all_chars (lines_of at (take count (drop at s))) ++ drop (length (all_chars (lines_of at (take count (drop at s))))) before)
    × (characters ≡ length (all_chars (lines_of at (take count (drop at s)))))
part_there s at count before after characters stop part room e =
    let size : at + count - at ≡ count = omega arith in
    let few = (parted s at count part).few in
    listed_there (take count (drop at s)) at before after characters stop (omega (arith, length-take count (drop at s), few)) room
    (e ∙ ap (λ (n : ℕ). listing_of (take n (drop at s)) at before) size)

-- ---- what is left of a page

-- a text that stands whole at the start of what was left of a page was put behind the text that stood
pub put_left : (bytes new text : List ℕ) (count k size : ℕ) → count + length text ≤ length bytes → k ≡ length bytes - count → new ≡ text ++ drop (length text) (drop count bytes) → size ≡ length text
    → page (put_mid count k bytes new) (count + size) ≡ written (page bytes count) text
put_left bytes new text count k size room rest is long =
    let whole : take (length text) text ≡ text = take_all (length text) text (omega arith) in
    let none : drop k (drop count bytes) ≡ [] = drop_of_length-le (drop count bytes) (omega (arith, length-drop count bytes)) in
    let same : put_mid count k bytes new ≡ put_mid count (length text) bytes text
    = ap (λ (l : List ℕ). take count bytes ++ (new ++ l)) none ∙ ap (λ (l : List ℕ). take count bytes ++ l) (append-nil new ∙ is) in
    let count-same : count + size ≡ count + length (take (length text) text) = omega (arith, ap (λ (l : List ℕ). length l) whole) in
    ap₂ page same count-same
    ∙ put_behind bytes text text count count (length text) (length text) (omega arith) (omega arith) (sym whole) refl
