-- Reading a term or a sum leaves fewer tokens, and how a sum goes on by one term.
-- Assumes nothing.
use mathlib.Core.Path.{◌≡◌, refl, sym, ◌∙◌}
use mathlib.Core.Bool.{Bool, true, false}
use mathlib.Core.List.{List, [], ◌∷◌}
use Prim.Native.Nat.{ℕ, zero, suc, ◌≤◌, ◌<◌}
use native.Mathlib.Omega.{arith}
use lib.Dec.{eqb}
use lib.ListN.{length, drop}
use Rattle.ground_rules.specs.Choice.{pick}
use Rattle.std.specs.declared.option.Option.{Option}
use Rattle.std.specs.declared.option.Option.TheVariants.{None, Some}
use Rattle.assembly_rules.specs.declared.Worth.{Worth}
use Rattle.assembly_rules.specs.Text.{Token}
use Rattle.assembly_rules.specs.Text.Token.{run, mark}
use Rattle.assembly_rules.specs.Numbers.{constant_of}
use Rattle.assembly_rules.specs.Sums.{Label, worth, begins_digit, is_register, combined_worth, label_worth, is_sign, begins_sign, Read, and_then, close_at, rest_with, first_sign, past_minus, sum_with, value_read, run_read, term_by, term_of}
use Rattle.assembly_rules.specs.Sums.Read.{read, deep, wrong}

-- fewer tokens than some number are left, if anything was read
abbrev pub Short : ℕ → Read → Type 0
Short n (read w rest) = length rest < n
Short n deep = Unit {0}
Short n wrong = Unit {0}

-- a reader of terms that leaves fewer tokens
abbrev pub Shortens : (List Token → Read) → Type 0
Shortens term = (ts : List Token) → Short (length ts) (term ts)

short-pick : (b : Bool) (n : ℕ) (x y : Read) → Short n x → Short n y → Short n (pick b x y)
short-pick true n x y h k = h
short-pick false n x y h k = k

short-more : (m n : ℕ) (r : Read) → m ≤ n → Short m r → Short n r
short-more m n (read w rest) l h = omega arith
short-more m n deep l h = tt
short-more m n wrong l h = tt

short-then : (m n : ℕ) (r : Read) (next : Worth → List Token → Read) → Short m r → m ≤ n → ((w : Worth) (ts : List Token) → length ts < m → Short n (next w ts)) → Short n (and_then r next)
short-then m n (read w rest) next h l k = k w rest h
short-then m n deep next h l k = tt
short-then m n wrong next h l k = tt

pub rest-short : (term : List Token → Read) → Shortens term → (left : ℕ) (w : Worth) (ts : List Token) → Short (suc (length ts)) (rest_with term left w ts)
unfolding rest_with
rest-short term h zero w ts = omega arith
rest-short term h (suc left) w [] = omega arith
rest-short term h (suc left) w (run r ∷ ts) = omega arith
rest-short term h (suc left) w (mark c ∷ ts) =
    short-pick (is_sign c) (suc (length (mark c ∷ ts))) (and_then (term ts) (λ x rest. rest_with term left (combined_worth c w x) rest)) (read w (mark c ∷ ts))
    (short-then (length ts) (suc (length (mark c ∷ ts))) (term ts) (λ x rest. rest_with term left (combined_worth c w x) rest) (h ts) (omega arith)
    (λ x rest l. short-more (suc (length rest)) (suc (length (mark c ∷ ts))) (rest_with term left (combined_worth c w x) rest) (omega arith) (rest-short term h left (combined_worth c w x) rest)))
    (omega arith)

minus-shorter : (ts : List Token) → length (past_minus ts) ≤ length ts
minus-shorter [] = omega arith
minus-shorter (run r ∷ ts) = omega arith
minus-shorter (mark c ∷ ts) = go (eqb c 45)
  where
    go : (b : Bool) → length (pick b (drop 1 (mark c ∷ ts)) (mark c ∷ ts)) ≤ length (mark c ∷ ts)
    go true = omega arith
    go false = omega arith

pub sum-short : (term : List Token → Read) → Shortens term → Shortens (sum_with term)
unfolding sum_with
sum-short term h ts =
    short-then (length (past_minus ts)) (length ts) (term (past_minus ts)) (λ x rest. rest_with term (length rest) (combined_worth (first_sign ts) (worth 0 true) x) rest) (h (past_minus ts)) (minus-shorter ts)
    (λ x rest l. short-more (suc (length rest)) (length ts) (rest_with term (length rest) (combined_worth (first_sign ts) (worth 0 true) x) rest) (omega (arith, minus-shorter ts)) (rest-short term h (length rest) (combined_worth (first_sign ts) (worth 0 true) x) rest))

close-short : (w : Worth) (ts : List Token) → Short (suc (length ts)) (close_at w ts)
close-short w [] = tt
close-short w (run r ∷ ts) = tt
close-short w (mark c ∷ ts) = short-pick (eqb c 41) (suc (length (mark c ∷ ts))) (read w ts) wrong (omega arith) tt

value-short : (k : Option ℕ) (ts : List Token) → Short (suc (length ts)) (value_read k ts)
value-short (Some v) ts = omega arith
value-short None ts = tt

run_short : (labels : List Label) (r : List ℕ) (ts : List Token) → Short (suc (length ts)) (run_read labels r ts)
unfolding run_read
run_short labels r ts =
    short-pick (begins_digit r) (suc (length ts)) (value_read (constant_of r) ts) (pick (is_register r) wrong (read (label_worth labels r) ts)) (value-short (constant_of r) ts)
    (short-pick (is_register r) (suc (length ts)) wrong (read (label_worth labels r) ts) tt (omega arith))

term-by-short : (inside : List Token → Read) (labels : List Label) → ((ts : List Token) → Short (suc (length ts)) (inside ts)) → Shortens (term_by inside labels)
unfolding term_by
term-by-short inside labels h [] = tt
term-by-short inside labels h (run r ∷ ts) = run_short labels r ts
term-by-short inside labels h (mark c ∷ ts) = short-pick (eqb c 40) (length (mark c ∷ ts)) (inside ts) wrong (h ts) tt

-- a term leaves fewer tokens than it found
pub term-short : (depth : ℕ) (labels : List Label) → Shortens (term_of depth labels)
unfolding term_of
term-short zero labels = term-by-short (λ ts. deep) labels (λ ts. tt)
term-short (suc depth) labels =
    term-by-short (λ ts. and_then (sum_with (term_of depth labels) ts) close_at) labels
    (λ ts. short-then (length ts) (suc (length ts)) (sum_with (term_of depth labels) ts) close_at (sum-short (term_of depth labels) (term-short depth labels) ts) (omega arith)
    (λ w rest l. short-more (suc (length rest)) (suc (length ts)) (close_at w rest) (omega arith) (close-short w rest)))

-- a worth stays where no sign stands next
pub rest-stop : (term : List Token → Read) (left : ℕ) (w : Worth) (ts : List Token) → begins_sign ts ≡ false → rest_with term left w ts ≡ read w ts
unfolding rest_with
rest-stop term zero w ts h = refl
rest-stop term (suc left) w [] h = refl
rest-stop term (suc left) w (run r ∷ ts) h = refl
rest-stop term (suc left) w (mark c ∷ ts) h = rw h

-- and goes on by a term behind a sign
pub rest-term : (term : List Token → Read) (left : ℕ) (w : Worth) (c : ℕ) (ts : List Token) → is_sign c ≡ true → rest_with term (suc left) w (mark c ∷ ts) ≡ and_then (term ts) (λ x rest. rest_with term left (combined_worth c w x) rest)
unfolding rest_with
rest-term term left w c ts h = rw h

no-sign-left : (ts : List Token) → length ts ≤ 0 → begins_sign ts ≡ false
no-sign-left [] h = refl
no-sign-left (t ∷ ts) h = absurd (omega arith)

-- one more turn with as many terms allowed as there are tokens
enough-next : (term : List Token → Read) → Shortens term → (m n : ℕ) (w : Worth) (ts : List Token) → length ts ≤ suc m → length ts ≤ n
    → ((n : ℕ) (w : Worth) (ts : List Token) → length ts ≤ m → length ts ≤ n → rest_with term m w ts ≡ rest_with term n w ts) → rest_with term (suc m) w ts ≡ rest_with term n w ts
unfolding rest_with
enough-next term h m n w [] k l later = sym (rest-stop term n w [] refl)
enough-next term h m n w (run r ∷ ts) k l later = sym (rest-stop term n w (run r ∷ ts) refl)
enough-next term h m zero w (mark c ∷ ts) k l later = absurd (omega arith)
enough-next term h m (suc n) w (mark c ∷ ts) k l later = go (is_sign c) (term ts) (h ts)
  where
    go : (b : Bool) (r : Read) → Short (length ts) r → pick b (and_then r (λ x rest. rest_with term m (combined_worth c w x) rest)) (read w (mark c ∷ ts)) ≡ pick b (and_then r (λ x rest. rest_with term n (combined_worth c w x) rest)) (read w (mark c ∷ ts))
    go false r s = refl
    go true deep s = refl
    go true wrong s = refl
    go true (read x rest) s = later n (combined_worth c w x) rest (omega arith) (omega arith)

-- how many more terms are allowed does not matter where the tokens are no more
pub rest-enough : (term : List Token → Read) → Shortens term → (m n : ℕ) (w : Worth) (ts : List Token) → length ts ≤ m → length ts ≤ n → rest_with term m w ts ≡ rest_with term n w ts
rest-enough term h zero n w ts k l = let e = no-sign-left ts k in rest-stop term 0 w ts e ∙ sym (rest-stop term n w ts e)
rest-enough term h (suc m) n w ts k l = enough-next term h m n w ts k l (λ i x us. rest-enough term h m i x us)
