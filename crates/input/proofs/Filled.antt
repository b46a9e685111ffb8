-- A buffer that is filled piece by piece.
use Rattle.std.proofs.Common.{◌≡◌, ℕ, ◌+◌, ◌≤◌, List, ◌++◌, length, take, sym, ap, ◌∙◌, length-take-le}
use borrow.Rule.Slice.PartMut.{put_mid, post_of}
use lib.Seq.{take-append-le, take-append-add}

-- what stood in front, and the first of what was put behind it, are the front of the new buffer
pub one_behind_other : (at k n : ℕ) (buffer part : List ℕ) → at ≤ length buffer → n ≤ length part → take (at + n) (put_mid at k buffer part) ≡ take at buffer ++ take n part
one_behind_other at k n buffer part inside fits =
    let long : at ≡ length (take at buffer) = sym (length-take-le at buffer inside) in
    ap (λ m. take (m + n) (put_mid at k buffer part)) long ∙ take-append-add (take at buffer) (part ++ post_of at k buffer) n
    ∙ ap (λ l. take at buffer ++ l) (take-append-le n part (post_of at k buffer) fits)
