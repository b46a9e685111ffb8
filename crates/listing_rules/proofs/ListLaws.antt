-- The lines of a part one by one.
-- Assumes nothing.
use mathlib.Core.Path.{◌≡◌, refl, ap, ap₂, ◌∙◌}
use mathlib.Core.List.{List, [], ◌∷◌}
use Prim.Native.Nat.{ℕ, zero, suc, ◌+◌, ◌-◌, ◌≤◌, ◌<◌}
use native.Mathlib.Nat.{add_assoc}
use native.Mathlib.Omega.{arith}
use lib.ListN.{length, drop, length-drop}
use lib.Seq.{drop-drop}
use borrow.Author.Tests.{le-leb, lt-leb}
use Rattle.listing_rules.specs.Items.{item_of, count_of, behind_of}
use Rattle.listing_rules.specs.Listings.{TextLine, line_at, lines_by, lines_of, kept_in}
use Rattle.listing_rules.proofs.RowLaws.{count-some}

-- bytes there are
some : (b : ℕ) (bytes : List ℕ) → length (b ∷ bytes) ≡ 0 → ⊥
some b bytes e = omega arith

-- as many lines as there are bytes are enough
enough : (f g address : ℕ) (bytes : List ℕ) → length bytes ≤ f → length bytes ≤ g → lines_by f address bytes ≡ lines_by g address bytes
unfolding lines_by
enough zero zero address [] h k = refl
enough zero (suc g) address [] h k = refl
enough (suc f) zero address [] h k = refl
enough (suc f) (suc g) address [] h k = refl
enough zero g address (b ∷ bytes) h k = absurd (omega arith)
enough (suc f) zero address (b ∷ bytes) h k = absurd (omega arith)
enough (suc f) (suc g) address (b ∷ bytes) h k =
    let n = count_of (item_of (b ∷ bytes)) in
    let fewer : length (drop n (b ∷ bytes)) ≤ length bytes = omega (arith, length-drop n (b ∷ bytes), count-some (b ∷ bytes) (some b bytes)) in
    ap (λ (l : List TextLine). line_at address (b ∷ bytes) ∷ l) (enough f g (address + n) (drop n (b ∷ bytes)) (omega arith) (omega arith))

-- the first line, and the lines of the rest
pub lines_next : (address : ℕ) (bytes : List ℕ) → (length bytes ≡ 0 → ⊥) → lines_of address bytes ≡ line_at address bytes ∷ lines_of (address + count_of (item_of bytes)) (drop (count_of (item_of bytes)) bytes)
unfolding lines_of lines_by
lines_next address [] h = absurd (h refl)
lines_next address (b ∷ bytes) h =
    let n = count_of (item_of (b ∷ bytes)) in
    let fewer : length (drop n (b ∷ bytes)) ≤ length bytes = omega (arith, length-drop n (b ∷ bytes), count-some (b ∷ bytes) h) in
    ap (λ (l : List TextLine). line_at address (b ∷ bytes) ∷ l) (enough (length bytes) (length (drop n (b ∷ bytes))) (address + n) (drop n (b ∷ bytes)) fewer (omega arith))

pub lines_none : (address : ℕ) (bytes : List ℕ) → length bytes ≡ 0 → lines_of address bytes ≡ []
unfolding lines_of lines_by
lines_none address [] h = refl
lines_none address (b ∷ bytes) h = absurd (omega arith)

pub kept_next : (room : ℕ) (line : TextLine) (lines : List TextLine) → length line.chars ≤ room → kept_in room (line ∷ lines) ≡ line ∷ kept_in (room - length line.chars) lines
unfolding kept_in
kept_next room line lines h = rw (le-leb (length line.chars) room h)

pub kept-none : (room : ℕ) (line : TextLine) (lines : List TextLine) → room < length line.chars → kept_in room (line ∷ lines) ≡ []
unfolding kept_in
kept-none room line lines h = rw (lt-leb (length line.chars) room h)

-- from a place of the code on: the line of what stands there, and the lines from the place behind it on
pub lines-behind : (first : ℕ) (code : List ℕ) (at : ℕ) → at < length code
    → lines_of (first + at) (drop at code) ≡ line_at (first + at) (drop at code) ∷ lines_of (first + behind_of code at) (drop (behind_of code at) code)
unfolding behind_of
lines-behind first code at h =
    let n = count_of (item_of (drop at code)) in
    lines_next (first + at) (drop at code) (λ e. omega (arith, length-drop at code))
    ∙ ap₂ (λ (a : ℕ) (l : List ℕ). line_at (first + at) (drop at code) ∷ lines_of a l) (add_assoc first at n) (drop-drop n at code)
