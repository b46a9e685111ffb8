-- Stores in a row: one run of them after another is one run, and a run as long as the list is the list that it stores.
-- Assumes nothing.
use Prim.Native.Nat.{ℕ, suc, ◌+◌}
use lib.ListN.{length, set, drop_of_length-le}
use lib.Seq.{sets, sets-eq}
use mathlib.Core.List.{List, [], ◌∷◌, ◌++◌, append-nil}
use mathlib.Core.Path.{◌≡◌, sym, ap, ◌∙◌}
use native.Mathlib.Nat.{add-zero}
use native.Mathlib.Omega.{arith}

-- stores of xs and then, right behind them, of ys
pub sets-append : (xs ys b : List ℕ) (at : ℕ) → sets b at (xs ++ ys) ≡ sets (sets b at xs) (at + length xs) ys
sets-append [] ys b at = ap (λ (n : ℕ). sets b n ys) (sym (add-zero at))
sets-append (x ∷ xs) ys b at =
    let e : suc at + length xs ≡ at + suc (length xs) = omega arith in
    sets-append xs ys (set b at x) (suc at) ∙ ap (λ (n : ℕ). sets (sets (set b at x) (suc at) xs) n ys) e

-- the same where the second offset is given
pub sets_then : (xs ys b : List ℕ) (at next : ℕ) → next ≡ at + length xs → sets (sets b at xs) next ys ≡ sets b at (xs ++ ys)
sets_then xs ys b at next e = rw (e, sets-append xs ys b at)

-- as many stores as the list is long leave what was stored
pub sets-whole : (xs b : List ℕ) → length b ≡ length xs → sets b 0 xs ≡ xs
sets-whole xs b e =
    sets-eq xs b 0 (omega arith)
    ∙ ap (λ (l : List ℕ). xs ++ l) (drop_of_length-le b {i = 0 + length xs} (omega arith))
    ∙ append-nil xs
