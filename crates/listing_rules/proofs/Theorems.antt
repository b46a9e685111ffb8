-- What a listing promises: every byte listed once, lines that end and are short, a stop from which it goes on.
-- Assumes nothing.
use Rattle.std.proofs.Common.{Ok}
use mathlib.Core.Path.{◌≡◌, refl, sym, ap, ◌∙◌}
use mathlib.Core.Bool.{Bool, true, false}
use mathlib.Core.List.{List, [], ◌∷◌, ◌++◌, append_assoc}
use Prim.Native.Nat.{ℕ, zero, suc, ◌+◌, ◌-◌, ◌≤◌}
use native.Mathlib.Omega.{arith}
use lib.Dec.{leb}
use lib.ListN.{length, get_or, take, drop, length-append, length-take, length-drop, take-append-drop}
use lib.Seq.{take_all, drop-drop, take_at}
use borrow.Author.Tests.{leb-true, leb-false}
use Rattle.ground_rules.specs.Choice.{pick}
use Rattle.instruction_rules.specs.declared.Memory.{Memory}
use Rattle.instruction_rules.specs.declared.Shape.{Shape}
use Rattle.instruction_rules.specs.Reading.{decode_of}
use Rattle.listing_rules.specs.Characters.{ascii}
use Rattle.listing_rules.specs.Mnemonics.{is_listed, mnemonic_of}
use Rattle.listing_rules.specs.Forms.{slots_of, filled, following}
use Rattle.listing_rules.specs.Lines.{'blank, 'comma, 'end, line_with, instruction_line, data_items, data_line}
use Rattle.listing_rules.proofs.LineLaws.{line-short, data-short}
use Rattle.listing_rules.specs.declared.Item.{Item}
use Rattle.listing_rules.specs.declared.Item.TheVariants.{Whole, Byte, End}
use Rattle.listing_rules.specs.Items.{item_of, count_of}
use Rattle.listing_rules.specs.Listings.{TextLine, chars_of, line_at, lines_by, lines_of, all_chars, all_bytes, kept_in, list_limit, Listing, listing, placed, listing_of}
use Rattle.listing_rules.proofs.RowLaws.{whole-at, call-size, count-some, count-there}
use Rattle.listing_rules.proofs.ListLaws.{lines_next, lines_none, kept_next, kept-none}

some : (b : ℕ) (bytes : List ℕ) → length (b ∷ bytes) ≡ 0 → ⊥
some b bytes e = omega arith

listed_by : (f first : ℕ) (bytes : List ℕ) → length bytes ≤ f → all_bytes (lines_by f first bytes) ≡ bytes
unfolding lines_by all_bytes line_at
listed_by zero first [] h = refl
listed_by zero first (b ∷ bytes) h = absurd (omega arith)
listed_by (suc f) first [] h = refl
listed_by (suc f) first (b ∷ bytes) h =
    let n = count_of (item_of (b ∷ bytes)) in
    let less : length (drop n (b ∷ bytes)) ≤ f = omega (arith, length-drop n (b ∷ bytes), count-some (b ∷ bytes) (some b bytes)) in
    ap (λ (l : List ℕ). take n (b ∷ bytes) ++ l) (listed_by f (first + n) (drop n (b ∷ bytes)) less) ∙ take-append-drop n (b ∷ bytes)

-- the bytes of the lines, put together in order, are the code: none is left out and none listed twice
pub all_listed : (first : ℕ) (bytes : List ℕ) → all_bytes (lines_of first bytes) ≡ bytes
unfolding lines_of
all_listed first bytes = listed_by (length bytes) first bytes (omega arith)

-- a line ends in a line feed and has at most 28 characters
pub record Proper (chars : List ℕ) : Type 0 where
  pub front : List ℕ
  pub ends : chars ≡ front ++ ('end ∷ [])
  pub short : length chars ≤ 28

proper-data : (bytes : List ℕ) → length bytes ≤ 5 → Proper (data_line bytes)
unfolding data_line
proper-data bytes h = record { front = ascii "DB" ++ data_items 'blank bytes; ends = refl; short = data-short bytes h }

proper-line : (bytes : List ℕ) (end : ℕ) (s : Shape) (to : Memory) → Proper (instruction_line bytes end s to)
unfolding instruction_line line_with
proper-line bytes end s to =
    let w = mnemonic_of s in
    let p = slots_of s to in
    let x = following 'blank (filled bytes end p.first) in
    let y = following 'comma (filled bytes end p.second) in
    let z = following 'comma (filled bytes end p.third) in
    record { front = w ++ (x ++ (y ++ z)); ends = simp append_assoc; short = line-short bytes end s to }

pub proper-item : (address : ℕ) (bytes : List ℕ) (i : Item) → item_of bytes ≡ i → Proper (chars_of address bytes i)
unfolding chars_of
proper-item address bytes Byte e = proper-data (take 1 bytes) (omega (arith, length-take 1 bytes))
proper-item address bytes End e = proper-data (take 0 bytes) (omega (arith, length-take 0 bytes))
proper-item address bytes (Whole s to n) e = go (is_listed s) refl
  where
    go : (b : Bool) → is_listed s ≡ b → Proper (pick b (instruction_line bytes (address + n) s to) (data_line (take n bytes)))
    go true h = proper-line bytes (address + n) s to
    go false h =
        let w = whole-at bytes s to n e in
        proper-data (take n bytes) (omega (arith, length-take n bytes, w.size, call-size bytes s to h w.second))

-- the same of each of some lines
pub data Every : List TextLine → Type 0 where
  none : Every []
  more : {line : TextLine} {lines : List TextLine} → Proper line.chars → Every lines → Every (line ∷ lines)

proper-by : (f first : ℕ) (bytes : List ℕ) → Every (lines_by f first bytes)
unfolding lines_by line_at
proper-by zero first bytes = none
proper-by (suc f) first [] = none
proper-by (suc f) first (b ∷ bytes) =
    let n = count_of (item_of (b ∷ bytes)) in
    more (proper-item first (b ∷ bytes) (item_of (b ∷ bytes)) refl) (proper-by f (first + n) (drop n (b ∷ bytes)))

-- every line ends in a line feed and has at most 28 characters
pub all-proper : (first : ℕ) (bytes : List ℕ) → Every (lines_of first bytes)
unfolding lines_of
all-proper first bytes = proper-by (length bytes) first bytes

-- the shape that is listed is the one that the first pair decodes to, and its bytes are all there
pub listed-shape : (bytes : List ℕ) (s : Shape) (to : Memory) (n : ℕ) → item_of bytes ≡ Whole s to n → (decode_of (get_or bytes 0 0) (get_or bytes 1 0) ≡ Ok s) × (n ≤ length bytes)
listed-shape bytes s to n e = let w = whole-at bytes s to n e in (w.pair, w.there)

-- the characters and the bytes of lines one after the other
chars-append : (a b : List TextLine) → all_chars (a ++ b) ≡ all_chars a ++ all_chars b
unfolding all_chars
chars-append [] b = refl
chars-append (l ∷ a) b = ap (λ (t : List ℕ). l.chars ++ t) (chars-append a b) ∙ sym (append_assoc l.chars (all_chars a) (all_chars b))

pub bytes-append : (a b : List TextLine) → all_bytes (a ++ b) ≡ all_bytes a ++ all_bytes b
unfolding all_bytes
bytes-append [] b = refl
bytes-append (l ∷ a) b = ap (λ (t : List ℕ). l.bytes ++ t) (bytes-append a b) ∙ sym (append_assoc l.bytes (all_bytes a) (all_bytes b))

-- how many characters and bytes the lines have that are kept in a room
abbrev kept_chars : ℕ → ℕ → List ℕ → ℕ
kept_chars room first bytes = length (all_chars (kept_in room (lines_of first bytes)))

abbrev kept_bytes : ℕ → ℕ → List ℕ → ℕ
kept_bytes room first bytes = length (all_bytes (kept_in room (lines_of first bytes)))

line-count : (first : ℕ) (bytes : List ℕ) → (length bytes ≡ 0 → ⊥) → length (line_at first bytes).bytes ≡ count_of (item_of bytes)
unfolding line_at
line-count first bytes h = omega (arith, length-take (count_of (item_of bytes)) bytes, count-there bytes h)

-- keeping lines in a room `l` is keeping them in a smaller one `r` and going on from there
abbrev GoesOn : ℕ → ℕ → ℕ → List ℕ → Type 0
GoesOn r l first bytes =
    kept_in l (lines_of first bytes) ≡ kept_in r (lines_of first bytes) ++ kept_in (l - kept_chars r first bytes) (lines_of (first + kept_bytes r first bytes) (drop (kept_bytes r first bytes) bytes))

goes_none : (r l first : ℕ) (bytes : List ℕ) → kept_in r (lines_of first bytes) ≡ [] → GoesOn r l first bytes
unfolding all_chars all_bytes
goes_none r l first bytes e =
    let a : first + 0 ≡ first = omega arith in
    let b : l - 0 ≡ l = omega arith in
    rw e (rw (a, b))

kept-empty : (room : ℕ) → kept_in room [] ≡ []
unfolding kept_in
kept-empty room = refl

goes-line : (f r l first b : ℕ) (bytes : List ℕ) → length (b ∷ bytes) ≤ suc f → r ≤ l → length (line_at first (b ∷ bytes)).chars ≤ r
    → GoesOn (r - length (line_at first (b ∷ bytes)).chars) (l - length (line_at first (b ∷ bytes)).chars) (first + count_of (item_of (b ∷ bytes))) (drop (count_of (item_of (b ∷ bytes))) (b ∷ bytes))
    → GoesOn r l first (b ∷ bytes)
unfolding all_chars all_bytes
goes-line f r l first b bytes h k fits later =
    let all = b ∷ bytes in
    let n = count_of (item_of all) in
    let line = line_at first all in
    let len = length line.chars in
    let rest = lines_of (first + n) (drop n all) in
    let next = lines_next first all (some b bytes) in
    let small : kept_in r (lines_of first all) ≡ line ∷ kept_in (r - len) rest = ap (kept_in r) next ∙ kept_next r line rest fits in
    let large : kept_in l (lines_of first all) ≡ line ∷ kept_in (l - len) rest = ap (kept_in l) next ∙ kept_next l line rest (omega arith) in
    let c = kept_chars (r - len) (first + n) (drop n all) in
    let s = kept_bytes (r - len) (first + n) (drop n all) in
    let c2 : kept_chars r first all ≡ len + c = ap (λ (x : List TextLine). length (all_chars x)) small ∙ length-append line.chars (all_chars (kept_in (r - len) rest)) in
    let s1 : length line.bytes ≡ n = line-count first all (some b bytes) in
    let s2 : kept_bytes r first all ≡ n + s = ap (λ (x : List TextLine). length (all_bytes x)) small ∙ length-append line.bytes (all_bytes (kept_in (r - len) rest)) ∙ ap (λ (x : ℕ). x + s) s1 in
    let e1 : l - (len + c) ≡ l - len - c = omega arith in
    let e2 : first + (n + s) ≡ first + n + s = omega arith in
    let e3 : drop (n + s) all ≡ drop s (drop n all) = sym (drop-drop s n all) in
    let on = kept_in (l - len - c) (lines_of (first + n + s) (drop s (drop n all))) in
    let tail : kept_in (l - kept_chars r first all) (lines_of (first + kept_bytes r first all) (drop (kept_bytes r first all) all)) ≡ on = rw (c2, s2, e1, e2, e3) in
    large
    ∙ ap (λ (x : List TextLine). line ∷ x) later
    ∙ ap (λ (x : List TextLine). x ++ on) (sym small)
    ∙ ap (λ (x : List TextLine). kept_in r (lines_of first all) ++ x) (sym tail)

goes_case : (f r l first b : ℕ) (bytes : List ℕ) → length (b ∷ bytes) ≤ suc f → r ≤ l
    → GoesOn (r - length (line_at first (b ∷ bytes)).chars) (l - length (line_at first (b ∷ bytes)).chars) (first + count_of (item_of (b ∷ bytes))) (drop (count_of (item_of (b ∷ bytes))) (b ∷ bytes))
    → GoesOn r l first (b ∷ bytes)
goes_case f r l first b bytes h k later = go (leb (length (line_at first (b ∷ bytes)).chars) r) refl
  where
    go : (t : Bool) → leb (length (line_at first (b ∷ bytes)).chars) r ≡ t → GoesOn r l first (b ∷ bytes)
    go false e =
        goes_none r l first (b ∷ bytes)
        (ap (kept_in r) (lines_next first (b ∷ bytes) (some b bytes))
        ∙ kept-none r (line_at first (b ∷ bytes)) (lines_of (first + count_of (item_of (b ∷ bytes))) (drop (count_of (item_of (b ∷ bytes))) (b ∷ bytes))) (leb-false (length (line_at first (b ∷ bytes)).chars) r e))
    go true e = goes-line f r l first b bytes h k (leb-true (length (line_at first (b ∷ bytes)).chars) r e) later

goes_by : (f r l first : ℕ) (bytes : List ℕ) → length bytes ≤ f → r ≤ l → GoesOn r l first bytes
goes_by zero r l first [] h k = goes_none r l first [] (ap (kept_in r) (lines_none first [] refl) ∙ kept-empty r)
goes_by zero r l first (b ∷ bytes) h k = absurd (omega arith)
goes_by (suc f) r l first [] h k = goes_none r l first [] (ap (kept_in r) (lines_none first [] refl) ∙ kept-empty r)
goes_by (suc f) r l first (b ∷ bytes) h k =
    let all = b ∷ bytes in
    let n = count_of (item_of all) in
    let len = length (line_at first all).chars in
    goes_case f r l first b bytes h k (goes_by f (r - len) (l - len) (first + n) (drop n all) (omega (arith, length-drop n all, count-some all (some b bytes))) (omega arith))

-- a listing that is gone on with from its stop gives what a larger buffer would hold
pub goes_on : (r l first : ℕ) (bytes : List ℕ) → r ≤ l → GoesOn r l first bytes
goes_on r l first bytes k = goes_by (length bytes) r l first bytes (omega arith) k

-- so the listing of a part in a large buffer is that in a smaller one, and behind it the listing of the rest from the stop
pub record Continued (whole part rest : Listing) : Type 0 where
  pub characters : whole.characters ≡ part.characters + rest.characters
  pub stop : whole.stop ≡ part.stop + rest.stop
  pub text : take whole.characters whole.buffer ≡ take part.characters part.buffer ++ take rest.characters rest.buffer

pub placed-text : (lines : List TextLine) (buffer : List ℕ) → take (placed lines buffer).characters (placed lines buffer).buffer ≡ all_chars lines
unfolding placed
placed-text lines buffer = take_at (all_chars lines) (drop (length (all_chars lines)) buffer) (length (all_chars lines)) refl

-- lines that are the lines of two listings one behind the other
joined : (whole part rest : List TextLine) (x y z : List ℕ) → whole ≡ part ++ rest → Continued (placed whole x) (placed part y) (placed rest z)
unfolding placed
joined whole part rest x y z e =
    let c : all_chars whole ≡ all_chars part ++ all_chars rest = ap all_chars e ∙ chars-append part rest in
    let b : all_bytes whole ≡ all_bytes part ++ all_bytes rest = ap all_bytes e ∙ bytes-append part rest in
    record {
      characters = ap length c ∙ length-append (all_chars part) (all_chars rest);
      stop = ap length b ∙ length-append (all_bytes part) (all_bytes rest);
      text = placed-text whole x ∙ c ∙ rw (placed-text part y, placed-text rest z);
    }

same-part : (code buffer : List ℕ) (first : ℕ) → length code ≤ list_limit → listing_of code first buffer ≡ placed (kept_in (length buffer) (lines_of first code)) buffer
unfolding listing_of
same-part code buffer first limit = rw (take_all list_limit code limit)

pub continued : (code small large last : List ℕ) (first : ℕ) → length code ≤ list_limit → length small ≤ length large
    → length last ≡ length large - (listing_of code first small).characters
    → Continued (listing_of code first large) (listing_of code first small) (listing_of (drop (listing_of code first small).stop code) (first + (listing_of code first small).stop) last)
unfolding placed
continued code small large last first limit fits size =
    let s = kept_bytes (length small) first code in
    let ea = same-part code small first limit in
    let el = same-part code large first limit in
    let er = same-part (drop s code) last (first + s) (omega (arith, length-drop s code)) in
    let more : length last ≡ length large - kept_chars (length small) first code = rw ea at size in
    let e : kept_in (length large) (lines_of first code) ≡ kept_in (length small) (lines_of first code) ++ kept_in (length last) (lines_of (first + s) (drop s code)) = rw more (goes_on (length small) (length large) first code fits) in
    rw (ea, el, er) (joined (kept_in (length large) (lines_of first code)) (kept_in (length small) (lines_of first code)) (kept_in (length last) (lines_of (first + s) (drop s code))) large small last e)

-- where all lines fit, all are kept
kept-all : (lines : List TextLine) (room : ℕ) → length (all_chars lines) ≤ room → kept_in room lines ≡ lines
unfolding all_chars
kept-all [] room h = kept-empty room
kept-all (line ∷ lines) room h =
    let a = length-append line.chars (all_chars lines) in
    kept_next room line lines (omega (arith, a)) ∙ ap (λ (l : List TextLine). line ∷ l) (kept-all lines (room - length line.chars) (omega (arith, a)))

-- a buffer with room for all lines gets them all, and the stop is the part's length
pub all_fit : (code buffer : List ℕ) (first : ℕ) → length code ≤ list_limit → length (all_chars (lines_of first code)) ≤ length buffer
    → listing_of code first buffer ≡ listing (length (all_chars (lines_of first code))) (length code) (all_chars (lines_of first code) ++ drop (length (all_chars (lines_of first code))) buffer)
unfolding placed
all_fit code buffer first limit room = same-part code buffer first limit ∙ rw (kept-all (lines_of first code) (length buffer) room, all_listed first code)

-- the limit, by itself, so that another is refused by its number: of two long parts of a list the prover does not tell which is longer
pub list-limit : list_limit ≡ 1048576
list-limit = refl

-- of a longer part the first 1,048,576 bytes are listed
pub first-listed : (code buffer : List ℕ) (first : ℕ) → listing_of code first buffer ≡ placed (kept_in (length buffer) (lines_of first (take 1048576 code))) buffer
unfolding listing_of
first-listed code buffer first = ap (λ (n : ℕ). placed (kept_in (length buffer) (lines_of first (take n code))) buffer) list-limit
