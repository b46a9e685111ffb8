-- What a character in front of others does to their tokens; small letters and capitals have the same tokens.
-- Assumes nothing.
use mathlib.Core.Path.{◌≡◌, refl, sym, ap, ◌∙◌}
use mathlib.Core.Bool.{Bool, true, false, ◌&&◌, ◌||◌, false≢true}
use mathlib.Core.List.{List, [], ◌∷◌, ◌++◌}
use Prim.Native.Nat.{ℕ, ◌-◌, ◌≤◌}
use native.Mathlib.Omega.{arith}
use lib.Dec.{eqb, leb}
use borrow.Author.Tests.{eqb-true, leb-true, le-leb, lt-leb}
use Rattle.ground_rules.specs.Choice.{pick}
use Rattle.assembly_rules.specs.Text.{capital_of, capitals, is_digit, is_capital, is_run, is_blank, ends_line, Begun, begun, all_of, in_front_of, begun_by, tokens_of, leading_run, Token, is_comma, before_comma, from_comma}
use Rattle.assembly_rules.specs.Text.Token.{mark}

-- a blank belongs to no run and ends no line
pub blank-plain : (c : ℕ) → is_blank c ≡ true → (is_run c ≡ false) × (ends_line c ≡ false)
unfolding is_blank is_run is_digit is_capital capital_of ends_line
blank-plain c h = go (eqb c 32) refl (eqb c 9) refl (eqb c 13) refl h
  where
    go : (x : Bool) → eqb c 32 ≡ x → (y : Bool) → eqb c 9 ≡ y → (z : Bool) → eqb c 13 ≡ z → x || (y || z) ≡ true → (is_run c ≡ false) × (ends_line c ≡ false)
    go true p y q z r k = rw (eqb-true c 32 p) (refl, refl)
    go false p true q z r k = rw (eqb-true c 9 q) (refl, refl)
    go false p false q true r k = rw (eqb-true c 13 r) (refl, refl)
    go false p false q false r k = absurd (false≢true k)

pub tokens-blank : (c : ℕ) (cs : List ℕ) → is_blank c ≡ true → tokens_of (c ∷ cs) ≡ tokens_of cs
unfolding tokens_of begun_by in_front_of
tokens-blank c cs h = let p = blank-plain c h in rw (p.0, p.1, h)

pub tokens-end : (c : ℕ) (cs : List ℕ) → is_run c ≡ false → ends_line c ≡ true → tokens_of (c ∷ cs) ≡ []
unfolding tokens_of begun_by in_front_of
tokens-end c cs h k = rw (h, k)

pub tokens-mark : (c : ℕ) (cs : List ℕ) → is_run c ≡ false → ends_line c ≡ false → is_blank c ≡ false → tokens_of (c ∷ cs) ≡ mark c ∷ tokens_of cs
unfolding tokens_of begun_by in_front_of
tokens-mark c cs h k l = rw (h, k, l)

front-none : (c : ℕ) (b : Begun) → is_run c ≡ false → (in_front_of c b).front ≡ []
unfolding in_front_of
front-none c b h = rw h (go (ends_line c) (is_blank c))
  where
    go : (e k : Bool) → (pick e (begun [] []) (pick k (begun [] (all_of b)) (begun [] (mark c ∷ all_of b)))).front ≡ []
    go true k = refl
    go false true = refl
    go false false = refl

front-more : (c : ℕ) (b : Begun) → is_run c ≡ true → (in_front_of c b).front ≡ capital_of c ∷ b.front
unfolding in_front_of
front-more c b h = rw h

-- a character that belongs to no run begins none
pub run_none : (c : ℕ) (cs : List ℕ) → is_run c ≡ false → leading_run (c ∷ cs) ≡ []
unfolding leading_run begun_by
run_none c cs h = front-none c (begun_by cs) h

pub run_more : (c : ℕ) (cs : List ℕ) → is_run c ≡ true → leading_run (c ∷ cs) ≡ capital_of c ∷ leading_run cs
unfolding leading_run begun_by
run_more c cs h = front-more c (begun_by cs) h

pub rest_more : (c : ℕ) (cs : List ℕ) → is_run c ≡ true → (begun_by (c ∷ cs)).rest ≡ (begun_by cs).rest
unfolding begun_by in_front_of
rest_more c cs h = rw h

-- where no run begins, the tokens are those behind it
pub no_run : (cs : List ℕ) → leading_run cs ≡ [] → (begun_by cs).rest ≡ tokens_of cs
unfolding leading_run tokens_of
no_run cs h = rw h

-- a small letter belongs to runs, and so does its capital, which has no other capital
small-runs : (c : ℕ) → 97 ≤ c → c ≤ 122 → (is_run c ≡ true) × (is_run (c - 32) ≡ true)
unfolding is_run is_digit is_capital capital_of
small-runs c l m =
    let a = le-leb 97 c l in
    let b = le-leb c 122 m in
    let d = le-leb 65 (c - 32) (omega arith) in
    let e = le-leb (c - 32) 90 (omega arith) in
    let f = lt-leb 97 (c - 32) (omega arith) in
    let g = lt-leb c 57 (omega arith) in
    let h = lt-leb (c - 32) 57 (omega arith) in
    (run_by (leb 48 c) (leb c 57) g (is_capital (capital_of c)) (eqb c 95) (rw (a, b, d, e)), run_by (leb 48 (c - 32)) (leb (c - 32) 57) h (is_capital (capital_of (c - 32))) (eqb (c - 32) 95) (rw (f, d, e)))
  where
    run_by : (x y : Bool) → y ≡ false → (z w : Bool) → z ≡ true → (x && y) || (z || w) ≡ true
    run_by true y p z w q = rw (p, q)
    run_by false y p z w q = rw q

capital-capital : (c : ℕ) → 97 ≤ c → c ≤ 122 → capital_of (c - 32) ≡ c - 32
unfolding capital_of
capital-capital c l m = rw (lt-leb 97 (c - 32) (omega arith))

small-capital : (c : ℕ) → 97 ≤ c → c ≤ 122 → capital_of c ≡ c - 32
unfolding capital_of
small-capital c l m = rw (le-leb 97 c l, le-leb c 122 m)

-- a character and its capital do the same
front-small : (c : ℕ) (b : Begun) → 97 ≤ c → c ≤ 122 → in_front_of c b ≡ in_front_of (c - 32) b
unfolding in_front_of
front-small c b l m =
    let r = small-runs c l m in
    let e : capital_of c ≡ c - 32 = small-capital c l m in
    rw (r.0, r.1, e, capital-capital c l m)

front-capital : (c : ℕ) (b : Begun) → in_front_of c b ≡ in_front_of (capital_of c) b
unfolding capital_of
front-capital c b = go (leb 97 c) refl (leb c 122) refl
  where
    go : (x : Bool) → leb 97 c ≡ x → (y : Bool) → leb c 122 ≡ y → in_front_of c b ≡ in_front_of (pick (x && y) (c - 32) c) b
    go true p true q = front-small c b (leb-true 97 c p) (leb-true c 122 q)
    go true p false q = refl
    go false p y q = refl

begun-capitals : (cs : List ℕ) → begun_by cs ≡ begun_by (capitals cs)
unfolding capitals begun_by
begun-capitals [] = refl
begun-capitals (c ∷ cs) = front-capital c (begun_by cs) ∙ ap (in_front_of (capital_of c)) (begun-capitals cs)

-- lines that differ in small letters and capitals alone have the same tokens
pub same-letters : (a b : List ℕ) → capitals a ≡ capitals b → tokens_of a ≡ tokens_of b
unfolding tokens_of
same-letters a b h = ap all_of (begun-capitals a ∙ ap begun_by h ∙ sym (begun-capitals b))

-- a line feed and a semicolon end the tokens, whatever follows
pub tokens-ended : (cs : List ℕ) → (tokens_of (10 ∷ cs) ≡ []) × (tokens_of (59 ∷ cs) ≡ [])
unfolding is_run is_digit is_capital capital_of ends_line
tokens-ended cs = (tokens-end 10 cs refl refl, tokens-end 59 cs refl refl)

-- tokens are those before their first comma and those from it on; none stand before one that is a comma
pub comma-split : (ts : List Token) → before_comma ts ++ from_comma ts ≡ ts
unfolding before_comma from_comma
comma-split [] = refl
comma-split (t ∷ ts) = go (is_comma t) (comma-split ts)
  where
    go : (b : Bool) → before_comma ts ++ from_comma ts ≡ ts → pick b [] (t ∷ before_comma ts) ++ pick b (t ∷ ts) (from_comma ts) ≡ t ∷ ts
    go true e = refl
    go false e = ap (λ (l : List Token). t ∷ l) e

pub comma-first : (ts : List Token) → before_comma (mark 44 ∷ ts) ≡ []
unfolding before_comma
comma-first ts = refl
