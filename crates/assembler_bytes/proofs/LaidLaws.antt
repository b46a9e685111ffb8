-- Bytes laid one behind another are laid at the start of the room.
-- Assumes nothing.
use mathlib.Core.Path.{◌≡◌, refl, sym, ap, ◌∙◌}
use mathlib.Core.Bool.{Bool, true, false}
use mathlib.Core.List.{List, [], ◌∷◌, ◌++◌, append_assoc}
use Prim.Native.Nat.{ℕ, ◌+◌, ◌/◌, ◌%◌, ◌≤◌}
use native.Mathlib.Omega.{arith}
use native.Mathlib.Nat.{mod-mod}
use lib.ListN.{length, set, length-append}
use lib.Seq.{set_out, set-append_seam}
use Rattle.ground_rules.specs.Bytes.{low_byte}
use Rattle.ground_rules.specs.Choice.{pick}
use Rattle.listing_rules.specs.Forms.{word_bytes}
use Rattle.assembler_bytes.specs.Laid.{bytes_laid, laid_at}

pub laid_none : (code : List ℕ) (at : ℕ) → laid_at code at [] ≡ code
unfolding laid_at
laid_none code at = refl

pub laid_one : (code : List ℕ) (at b : ℕ) (bs : List ℕ) → laid_at (set code at (b % 256)) (at + 1) bs ≡ laid_at code at (b ∷ bs)
unfolding laid_at
laid_one code at b bs = refl

-- a number as a byte or a word
pub laid-value : (code : List ℕ) (at n : ℕ) (two : Bool) (bs : List ℕ) → laid_at code at (n ∷ (pick two (n / 256 ∷ []) [] ++ bs)) ≡ laid_at code at (pick two (word_bytes n) (low_byte n ∷ []) ++ bs)
unfolding laid_at
laid-value code at n true bs = rw (mod-mod n 256, mod-mod (n / 256) 256)
laid-value code at n false bs = rw (mod-mod n 256)

-- there is no room behind the end
pub laid-past : (code : List ℕ) (at : ℕ) (bs : List ℕ) → length code ≤ at → laid_at code at bs ≡ code
unfolding laid_at
laid-past code at [] l = refl
laid-past code at (b ∷ bs) l = ap (λ (xs : List ℕ). laid_at xs (at + 1) bs) (set_out code at (b % 256) l) ∙ laid-past code (at + 1) bs (omega arith)

laid-behind : (front code bs : List ℕ) → laid_at (front ++ code) (length front) bs ≡ front ++ bytes_laid bs code
unfolding laid_at bytes_laid
laid-behind front code [] = refl
laid-behind front [] (b ∷ bs) = laid-past _ _ (b ∷ bs) (omega (arith, length-append front []))
laid-behind front (c ∷ code) (b ∷ bs) =
    let x = b % 256 in
    ap (λ (xs : List ℕ). laid_at xs (length front + 1) bs) (set-append_seam front c code x ∙ sym (append_assoc front (x ∷ []) code)) ∙ ap (λ (n : ℕ). laid_at ((front ++ (x ∷ [])) ++ code) n bs) (sym (length-append front (x ∷ []))) ∙ laid-behind (front ++ (x ∷ [])) code bs ∙ append_assoc front (x ∷ []) (bytes_laid bs code)

-- laid from the first place on
pub laid-all : (code bs : List ℕ) → laid_at code 0 bs ≡ bytes_laid bs code
laid-all code bs = laid-behind [] code bs

-- only the lowest byte of each number counts
unfoldable pub lows : List ℕ → List ℕ
lows [] = []
lows (b ∷ bs) = b % 256 ∷ lows bs

laid-lows : (code : List ℕ) (at : ℕ) (bs : List ℕ) → laid_at code at bs ≡ laid_at code at (lows bs)
unfolding laid_at lows
laid-lows code at [] = refl
laid-lows code at (b ∷ bs) = laid-lows (set code at (b % 256)) (at + 1) bs ∙ ap (λ (n : ℕ). laid_at (set code at n) (at + 1) (lows bs)) (sym (mod-mod b 256))

pub laid_same : (code : List ℕ) (at : ℕ) (bs cs : List ℕ) → lows bs ≡ lows cs → laid_at code at bs ≡ laid_at code at cs
laid_same code at bs cs e = laid-lows code at bs ∙ ap (laid_at code at) e ∙ sym (laid-lows code at cs)

pub lows-behind : (xs ys zs : List ℕ) → lows ys ≡ lows zs → lows (xs ++ ys) ≡ lows (xs ++ zs)
unfolding lows
lows-behind [] ys zs e = e
lows-behind (x ∷ xs) ys zs e = ap (λ (l : List ℕ). x % 256 ∷ l) (lows-behind xs ys zs e)

pub lows-two : (a b c d : ℕ) (ys zs : List ℕ) → a % 256 ≡ c % 256 → b % 256 ≡ d % 256 → lows ys ≡ lows zs → lows (a ∷ b ∷ ys) ≡ lows (c ∷ d ∷ zs)
unfolding lows
lows-two a b c d ys zs p q e = rw (p, q, e)
