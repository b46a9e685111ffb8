-- How a listing goes on, row by row.
-- Assumes nothing.
use mathlib.Core.Path.{◌≡◌, refl, sym, ap, ◌∙◌}
use mathlib.Core.List.{List, [], ◌∷◌, ◌++◌, append_assoc, append-nil}
use Prim.Native.Nat.{ℕ, ◌+◌, ◌*◌, ◌-◌, ◌≤◌, ◌<◌}
use native.Mathlib.Omega.{arith}
use lib.ListN.{length, take, drop, length-append, length-take, length-drop, take-append-drop, drop_of_length-le}
use lib.Seq.{paste, drop-drop, length-paste, take-paste, drop-paste}
use Rattle.listing_rules.specs.Items.{item_of, count_of}
use Rattle.listing_rules.specs.Listings.{TextLine, line_at, lines_of, all_chars, all_bytes, kept_in, listing, placed}
use Rattle.listing_rules.proofs.RowLaws.{count-some, count-there}
use Rattle.listing_rules.proofs.ListLaws.{lines_next, lines_none, kept_next, kept-none}
use Rattle.lister.specs.Rows.{Shown}
use Rattle.lister.specs.declared.listings.ListedRow.{ListedRow}

-- the lines that are still to be written
abbrev pub ahead : List ℕ → ℕ → List ℕ → ℕ → ℕ → List TextLine
ahead part first before at n = kept_in (length before - n) (lines_of (first + at) (drop at part))

-- how far a listing has come: `at` bytes are listed in `n` characters
pub record Going (part : List ℕ) (first : ℕ) (before text : List ℕ) (at n : ℕ) : Type 0 where
  pub place : at ≤ length part
  pub room : n ≤ length before
  pub few : n ≤ 28 * at
  pub size : length text ≡ length before
  pub rest : drop n text ≡ drop n before
  pub chars : all_chars (kept_in (length before) (lines_of first part)) ≡ take n text ++ all_chars (ahead part first before at n)
  pub bytes : length (all_bytes (kept_in (length before) (lines_of first part))) ≡ at + length (all_bytes (ahead part first before at n))

pub going_start : (part : List ℕ) (first : ℕ) (text : List ℕ) → Going part first text text 0 0
going_start part first text =
    let e : first + 0 ≡ first = omega arith in
    let l : length text - 0 ≡ length text = omega arith in
    let same : ahead part first text 0 0 ≡ kept_in (length text) (lines_of first part) = rw (e, l) in
    record { place = omega arith; room = omega arith; few = omega arith; size = refl; rest = refl; chars = sym (ap all_chars same); bytes = omega (arith, ap (λ (k : List TextLine). length (all_bytes k)) same) }

module _ (part : List ℕ) (first : ℕ) (before text : List ℕ) (at n : ℕ) (g : Going part first before text at n) where
  -- where nothing is ahead, it is done
  ended : ahead part first before at n ≡ [] → listing n at text ≡ placed (kept_in (length before) (lines_of first part)) before
  unfolding placed all_chars all_bytes
  ended none =
      let kept = kept_in (length before) (lines_of first part) in
      let c : all_chars kept ≡ take n text = g.chars ∙ ap (λ (l : List TextLine). take n text ++ all_chars l) none ∙ append-nil (take n text) in
      let b : length (all_bytes kept) ≡ at + 0 = g.bytes ∙ ap (λ (l : List TextLine). at + length (all_bytes l)) none in
      let m : length (all_chars kept) ≡ n = ap length c ∙ (let t = length-take n text in omega (arith, t, g.size, g.room)) in
      let stop : at ≡ length (all_bytes kept) = omega arith in
      let whole : text ≡ all_chars kept ++ drop (length (all_chars kept)) before = sym (take-append-drop n text) ∙ rw (g.rest, sym c, m) in
      rw (sym m, stop) (ap (λ (t : List ℕ). listing (length (all_chars kept)) (length (all_bytes kept)) t) whole)

  -- all is listed
  pub going_end : length part ≤ at → listing n at text ≡ placed (kept_in (length before) (lines_of first part)) before
  unfolding kept_in
  going_end h = ended (ap (kept_in (length before - n)) (lines_none (first + at) (drop at part) (ap length (drop_of_length-le part h))))

  module _ (more : at < length part) (row : ListedRow) (s : Shown row (first + at) (drop at part)) where
    there : length (drop at part) ≡ 0 → ⊥
    there e = omega (arith, e, length-drop at part)

    line : TextLine
    line = line_at (first + at) (drop at part)

    k : ℕ
    k = count_of (item_of (drop at part))

    line-size : length line.chars ≡ row.line.len
    unfolding line
    line-size = sym (ap length s.chars) ∙ sym s.size

    -- it lists a byte at least
    pub going-some : 1 ≤ row.count
    going-some = omega (arith, s.count, count-some (drop at part) there)

    line-bytes : length line.bytes ≡ row.count
    unfolding line line_at
    line-bytes = omega (arith, length-take (count_of (item_of (drop at part))) (drop at part), count-there (drop at part) there, s.count)

    -- the next line does not fit
    pub going-stop : length before - n < row.line.len → listing n at text ≡ placed (kept_in (length before) (lines_of first part)) before
    unfolding line k
    going-stop h = ended (ap (kept_in (length before - n)) (lines_next (first + at) (drop at part) there) ∙ kept-none (length before - n) line (lines_of (first + at + k) (drop k (drop at part))) (omega (arith, h, line-size)))

    -- it fits
    pub going_next : row.line.len ≤ length before - n → Going part first before (paste text n row.line.chars row.line.len) (at + row.count) (n + row.line.len)
    unfolding line k all_chars all_bytes
    going_next h =
        let len = row.line.len in
        let chars = row.line.chars in
        let next = paste text n chars len in
        let long : len ≤ length chars = omega (arith, s.size, length-take len chars) in
        let fits : n + len ≤ length text = omega (arith, h, g.size, g.room) in
        let rest = lines_of (first + at + k) (drop k (drop at part)) in
        let split : ahead part first before at n ≡ line ∷ kept_in (length before - n - length line.chars) rest =
        ap (kept_in (length before - n)) (lines_next (first + at) (drop at part) there) ∙ kept_next (length before - n) line rest (omega (arith, h, line-size)) in
        let e1 : length before - n - length line.chars ≡ length before - (n + len) = omega (arith, line-size) in
        let e2 : first + at + k ≡ first + (at + row.count) = omega (arith, s.count) in
        let e3 : drop k (drop at part) ≡ drop (at + row.count) part = drop-drop k at part ∙ ap (λ (j : ℕ). drop (at + j) part) (sym s.count) in
        let on : kept_in (length before - n - length line.chars) rest ≡ ahead part first before (at + row.count) (n + len) = rw (e1, e2, e3) in
        let head : take (n + len) next ≡ take n text ++ line.chars = take-paste text n chars len (omega arith) long ∙ ap (λ (t : List ℕ). take n text ++ t) s.chars in
        record {
          place = omega (arith, s.count, count-there (drop at part) there, length-drop at part);
          room = omega (arith, h, g.room);
          few = omega (arith, g.few, s.short, s.count, count-some (drop at part) there);
          size = length-paste text n chars len fits long ∙ g.size;
          rest = drop-paste text n chars len (omega arith) long ∙ sym (drop-drop len n text) ∙ ap (drop len) g.rest ∙ drop-drop len n before;
          chars = g.chars ∙ ap (λ (l : List TextLine). take n text ++ all_chars l) split ∙ sym (append_assoc (take n text) line.chars (all_chars (kept_in (length before - n - length line.chars) rest))) ∙ rw (head, on);
          bytes = g.bytes ∙ ap (λ (l : List TextLine). at + length (all_bytes l)) split ∙ (let a = length-append line.bytes (all_bytes (kept_in (length before - n - length line.chars) rest)) in let b : length line.bytes ≡ row.count = line-bytes in let c = ap (λ (l : List TextLine). length (all_bytes l)) on in omega (arith, a, b, c));
        }
