-- The laws of a report's words: cleared one by one, and added to one after the other, which comes to one report added.
-- Assumes nothing.
use mathlib.Core.{Bool.Bool, Bool.true, Bool.false, Bool.not, Bool.◌&&◌, List.List, List.[], List.◌∷◌, Path.◌≡◌, Path.refl, Path.ap₂, Path.ap, Path.◌∙◌}
use Rattle.std.proofs.Common.{ℕ, zero, suc, ◌+◌, ◌*◌, ◌/◌, ◌%◌, ◌^◌, ◌<◌, ltb-true, eqb-true}
use native.Mathlib.{Decide.dec_lt, Numerals.add-one, Omega.arith}
use lib.{Dec.eqb, Dec.ltb, ListN.length, ListN.get_or, ListN.set, ListN.replicate, ListN.length-set, Seq.set-get_or}
use Rattle.ground_rules.proofs.ChoiceLaws.{both_left, both_right}
use Rattle.ground_rules.specs.Choice.{pick}
use mir.Val.{bool_byte}
use Rattle.schedule_rules.specs.Counts.{once_if}
use Rattle.schedule_rules.specs.Reports.{no_report, put_over}
use Rattle.schedule_calls.specs.Words.{added_at, added_all, added_on}

-- ---- cleared

-- one word more
pub clear_next : (n : ℕ) (xs : List ℕ) → set (put_over (replicate n 0) xs) n 0 ≡ put_over (replicate (n + 1) 0) xs
unfolding put_over
clear_next n xs = rw (add-one n) (go n xs)
  where
    go : (k : ℕ) (ys : List ℕ) → set (put_over (replicate k 0) ys) k 0 ≡ put_over (replicate (suc k) 0) ys
    go zero [] = refl
    go zero (y ∷ l) = refl
    go (suc k) [] = refl
    go (suc k) (y ∷ l) = ap (λ (xs : List ℕ). 0 ∷ xs) (go k l)

-- nothing changes how many there are
pub over-length : (ws xs : List ℕ) → length (put_over ws xs) ≡ length xs
unfolding put_over
over-length [] xs = refl
over-length (w ∷ ws) [] = refl
over-length (w ∷ ws) (x ∷ l) = ap suc (over-length ws l)

-- ---- added to

-- words as they lie in lent memory
abbrev pub FitWords : List ℕ → Type 0
FitWords xs = (i : ℕ) → get_or xs i 0 < 2 ^ 64

-- nothing added at a place, or at each, leaves them
pub none-at : (at : ℕ) (xs : List ℕ) → FitWords xs → added_at at 0 xs ≡ xs
unfolding added_at
none-at at xs h = ap (set xs at) (omega (arith, h at)) ∙ set-get_or xs at 0

none-on : (n : ℕ) (xs : List ℕ) → FitWords xs → xs ≡ added_on (replicate n 0) xs
unfolding added_on
none-on zero xs h = refl
none-on (suc n) [] h = refl
none-on (suc n) (x ∷ xs) h = let l = h 0 in ap₂ ◌∷◌ (omega arith) (none-on n xs (λ i. h (suc i)))

-- a truth value as a number
pub once-byte : (b : Bool) → bool_byte b ≡ once_if b
once-byte true = refl
once-byte false = refl

pub not-byte : (b : Bool) → bool_byte (not b) ≡ pick b 0 1
not-byte true = refl
not-byte false = refl

-- numbers added at places of a report
abbrev plus_all : List (ℕ × ℕ) → List ℕ → List ℕ
plus_all [] ws = ws
plus_all (p ∷ ps) ws = plus_all ps (set ws p.0 (get_or ws p.0 0 + p.1))

-- which have room in it
abbrev all_below : ℕ → List (ℕ × ℕ) → Bool
all_below n [] = true
all_below n (p ∷ ps) = ltb p.0 n && all_below n ps

-- added to words after a report they are added to the report
one_on : (at by : ℕ) (ws xs : List ℕ) → at < length ws → added_at at by (added_on ws xs) ≡ added_on (set ws at (get_or ws at 0 + by)) xs
unfolding added_at added_on
one_on at by [] xs h = absurd (omega arith)
one_on zero by (w ∷ ws) [] h = refl
one_on zero by (w ∷ ws) (x ∷ l) h = ap (λ (n : ℕ). n ∷ added_on ws l) (omega arith)
one_on (suc at) by (w ∷ ws) [] h = refl
one_on (suc at) by (w ∷ ws) (x ∷ l) h = ap (λ (k : List ℕ). ((x + w) % 2 ^ 64) ∷ k) (one_on at by ws l (omega arith))

all-on : (ps : List (ℕ × ℕ)) (ws xs : List ℕ) → all_below (length ws) ps ≡ true → added_all ps (added_on ws xs) ≡ added_on (plus_all ps ws) xs
unfolding added_all
all-on [] ws xs h = refl
all-on (p ∷ ps) ws xs h =
    let first = ltb-true p.0 (length ws) (both_left (ltb p.0 (length ws)) (all_below (length ws) ps) h) in
    let rest = both_right (ltb p.0 (length ws)) (all_below (length ws) ps) h in
    ap (added_all ps) (one_on p.0 p.1 ws xs first) ∙ all-on ps (set ws p.0 (get_or ws p.0 0 + p.1)) xs (rw length-set rest)

-- numbers that come to a report, at places of it
abbrev pub CountedAs : List ℕ → List (ℕ × ℕ) → Type 0
CountedAs ws ps = (all_below 16 ps ≡ true) × (plus_all ps no_report ≡ ws)

-- added one after the other they are that report added
pub adds-are : (ps : List (ℕ × ℕ)) (ws xs : List ℕ) → FitWords xs → CountedAs ws ps → added_all ps xs ≡ added_on ws xs
adds-are ps ws xs small h = ap (added_all ps) (none-on 16 xs small) ∙ all-on ps no_report xs h.0 ∙ ap (λ (l : List ℕ). added_on l xs) h.1

-- ---- where a step is counted

-- two rules that agree below a number, tested at once, agree at each
abbrev agree_below : (ℕ → ℕ) → (ℕ → ℕ) → ℕ → Bool
agree_below f g zero = true
agree_below f g (suc n) = eqb (f n) (g n) && agree_below f g n

agree_at : (f g : ℕ → ℕ) (n : ℕ) → agree_below f g n ≡ true → (k : ℕ) → k < n → f k ≡ g k
agree_at f g zero e k h = absurd (omega (arith, h))
agree_at f g (suc n) e k h = either (dec_lt k n) (λ l. agree_at f g n (both_right (eqb (f n) (g n)) (agree_below f g n) e) k l)
  where
    either : Dec (k < n) → (k < n → f k ≡ g k) → f k ≡ g k
    either (yes l) rest = rest l
    either (no l) rest = let last : k ≡ n = omega (arith, h, l) in rw last (eqb-true (f n) (g n) (both_left (eqb (f n) (g n)) (agree_below f g n) e))

-- the digit of an answer's channel and kind is where a report counts its step
pub place-digit : (answer : ℕ) → 0x7E775C554B442922 / 2 ^ (answer / 256 % 16 * 4) % 16 ≡ pick (eqb (answer / 256 % 4) 2) 9 2 + (3 * (answer / 1024 % 4) + 1) / 2
place-digit answer =
    let channel : answer / 256 % 16 % 4 ≡ answer / 256 % 4 = omega arith in
    let kind : answer / 256 % 16 / 4 ≡ answer / 1024 % 4 = omega arith in
    rw (channel, kind) at (agree_at (λ (k : ℕ). 0x7E775C554B442922 / 2 ^ (k * 4) % 16) (λ (k : ℕ). pick (eqb (k % 4) 2) 9 2 + (3 * (k / 4) + 1) / 2) 16 refl (answer / 256 % 16) (omega arith))
