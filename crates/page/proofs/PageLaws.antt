-- The laws of a page: a text behind another, a full page, and a text that stands whole at a buffer's start.
-- Assumes nothing.
use mathlib.Core.List.{List, [], ◌∷◌, ◌++◌}
use mathlib.Core.Path.{◌≡◌, refl, sym, ap, ap₂, ◌∙◌}
use Prim.Native.Nat.{ℕ, suc, ◌+◌, ◌-◌, ◌≤◌, ◌<◌}
use native.Mathlib.Numerals.{add-one}
use native.Mathlib.Omega.{arith}
use borrow.Author.Tests.{lt-ltb, le-ltb}
use borrow.Rule.Slice.PartMut.{put_mid}
use lib.ListN.{length, set, take, drop, get_or, length-append, length-drop, drop_of_length-le}
use lib.Seq.{take_all, drop-cons, set-append_seam, append_snoc}
use Rattle.std.proofs.Common.{min, ◌⊎◌, inl, inr}
use Rattle.std.proofs.lemmas.Bool.{cases_lt}
use Rattle.std.proofs.lemmas.List.{length-take-le, take_min, take-append-drop}
use Rattle.page.specs.Pages.{PageBytes, page, typed, written, Printed}

-- ---- a text behind another

-- two texts, one behind the other
pub written_both : (p : PageBytes) (a b : List ℕ) → written p (a ++ b) ≡ written (written p a) b
unfolding written
written_both p [] b = refl
written_both p (x ∷ a) b = written_both (typed p x) a b

-- no text leaves a page as it is
pub nothing_written : (p : PageBytes) → written p [] ≡ p
unfolding written
nothing_written p = refl

-- ---- one character at a time

-- with no character left a text is written
pub all_typed : (p : PageBytes) (text : List ℕ) (i : ℕ) → length text ≤ i → written p (drop i text) ≡ p
unfolding written
all_typed p text i h = ap (written p) (drop_of_length-le text h)

-- a character where the page has room
room-typed : (bytes : List ℕ) (to b : ℕ) → to < length bytes → typed (page bytes to) b ≡ page (set bytes to b) (to + 1)
unfolding typed
room-typed bytes to b h = rw (lt-ltb to (length bytes) h)

-- the characters from an index on: the one there, and those behind it
from-here : (text : List ℕ) (i : ℕ) → i < length text → drop i text ≡ get_or text i 0 ∷ drop (i + 1) text
from-here text i h = rw (add-one i, drop-cons text i 0)

-- one character more, where the page has room
pub next-typed : (bytes text : List ℕ) (to i : ℕ) → to < length bytes → i < length text
    → written (page bytes to) (drop i text) ≡ written (page (set bytes to (get_or text i 0)) (to + 1)) (drop (i + 1) text)
unfolding written
next-typed bytes text to i h k =
    ap (written (page bytes to)) (from-here text i k)
    ∙ ap (λ (p : PageBytes). written p (drop (i + 1) text)) (room-typed bytes to (get_or text i 0) h)

-- none where it is full
none-typed : (p : PageBytes) (b : ℕ) → length p.bytes ≤ p.count → typed p b ≡ p
unfolding typed
none-typed p b h = rw (le-ltb p.count (length p.bytes) h)

-- a full page stays as it is
pub full_typed : (p : PageBytes) (text : List ℕ) → length p.bytes ≤ p.count → written p text ≡ p
unfolding written
full_typed p [] h = refl
full_typed p (b ∷ text) h = ap (λ (q : PageBytes). written q text) (none-typed p b h) ∙ full_typed p text h

-- ---- all of them at once

-- behind the bytes in front of it, as much as has room
placed-behind : (front rest text : List ℕ)
    → written (page (front ++ rest) (length front)) text
    ≡ page (front ++ (take (length rest) text ++ drop (length (take (length rest) text)) rest)) (length front + length (take (length rest) text))
unfolding written
placed-behind front [] text =
    full_typed (page (front ++ []) (length front)) text (omega (arith, length-append front [])) ∙ ap (λ (n : ℕ). page (front ++ []) n) (omega arith)
placed-behind front (x ∷ rest) [] = ap (λ (n : ℕ). page (front ++ (x ∷ rest)) n) (omega arith)
placed-behind front (x ∷ rest) (b ∷ text) =
    let here : length front < length (front ++ (x ∷ rest)) = omega (arith, length-append front (x ∷ rest)) in
    let grown : length front + 1 ≡ length (front ++ (b ∷ [])) = omega (arith, length-append front (b ∷ [])) in
    let put = take (length rest) text in
    let all : length (front ++ (b ∷ [])) + length put ≡ length front + suc (length put) = omega (arith, length-append front (b ∷ [])) in
    ap (λ (p : PageBytes). written p text) (room-typed (front ++ (x ∷ rest)) (length front) b here)
    ∙ ap₂ (λ (l : List ℕ) (n : ℕ). written (page l n) text) (set-append_seam front x rest b ∙ sym (append_snoc front b rest)) grown
    ∙ placed-behind (front ++ (b ∷ [])) rest text
    ∙ ap₂ page (append_snoc front b (put ++ drop (length put) rest)) all

-- bytes put behind the first ones of a buffer, as many as there is room for
pub put_behind : (bytes new text : List ℕ) (count from size k : ℕ) → from ≡ min count (length bytes) → size ≡ min (length bytes - from) (length text) → new ≡ take size text → k ≡ length new
    → page (put_mid from k bytes new) (count + length (take size text)) ≡ written (page bytes count) text
put_behind bytes new text count from size k start least is long =
    ap (λ (l : List ℕ). page (put_mid from k bytes new) (count + length l)) (sym is) ∙ go (cases_lt count (length bytes))
  where
    go : (count < length bytes) ⊎ (length bytes ≤ count) → page (put_mid from k bytes new) (count + length new) ≡ written (page bytes count) text
    go (inl h) =
        let front = take count bytes in
        let rest = drop count bytes in
        let here : from ≡ count = omega (arith, start) in
        let stands : length front ≡ count = length-take-le count bytes (omega arith) in
        let room : length bytes - from ≡ length rest = omega (arith, here, length-drop count bytes) in
        let put : new ≡ take (length rest) text = is ∙ ap (λ (n : ℕ). take n text) (least ∙ ap (λ (n : ℕ). min n (length text)) room) ∙ take_min (length rest) text in
        ap (λ (n : ℕ). page (put_mid n k bytes new) (count + length new)) here
        ∙ ap₂ (λ (n m : ℕ). page (front ++ (new ++ drop n rest)) (m + length new)) long (sym stands)
        ∙ ap (λ (l : List ℕ). page (front ++ (l ++ drop (length l) rest)) (length front + length l)) put
        ∙ sym (placed-behind front rest text)
        ∙ ap₂ (λ (l : List ℕ) (n : ℕ). written (page l n) text) (take-append-drop count bytes) stands
    go (inr h) =
        let here : from ≡ length bytes = omega (arith, start) in
        let none : size ≡ 0 = omega (arith, least, here) in
        let empty : new ≡ [] = is ∙ ap (λ (n : ℕ). take n text) none in
        let k-none : k ≡ 0 = long ∙ ap (λ (l : List ℕ). length l) empty in
        let count-same : count + 0 ≡ count = omega arith in
        ap₂ (λ (n m : ℕ). page (put_mid n m bytes new) (count + length new)) here k-none
        ∙ ap (λ (l : List ℕ). page (put_mid (length bytes) 0 bytes l) (count + length l)) empty
        ∙ ap₂ page (take-append-drop (length bytes) bytes) count-same
        ∙ sym (full_typed (page bytes count) text h)

-- ---- a text that stands whole

-- at the start of a buffer
pub printed : (before after : List ℕ) (count : ℕ) (text : List ℕ) → length text ≤ length before → page after count ≡ written (page before 0) text → Printed before after count text
printed before after count text h e =
    let put : take (length before) text ≡ text = take_all (length before) text h in
    let whole = e ∙ placed-behind [] before text ∙ ap (λ (l : List ℕ). page (l ++ drop (length l) before) (0 + length l)) put in
    let bytes : after ≡ text ++ drop (length text) before = ap (λ (p : PageBytes). p.bytes) whole in
    let size : count ≡ 0 + length text = ap (λ (p : PageBytes). p.count) whole in
    record { bytes = bytes; size = omega arith; room = omega (arith, ap (λ (l : List ℕ). length l) bytes, length-append text (drop (length text) before)) }
