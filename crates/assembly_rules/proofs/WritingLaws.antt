-- Every way of writing some tokens, with blanks between them and in whatever letters, has these tokens, and there is no other way.
-- Assumes nothing.
use mathlib.Core.Path.{◌≡◌, refl, sym, ap, subst, ◌∙◌}
use mathlib.Core.Bool.{Bool, true, false, ◌&&◌, false≢true}
use mathlib.Core.List.{List, [], ◌∷◌, ◌++◌}
use Prim.Native.Nat.{ℕ}
use Rattle.assembly_rules.specs.Text.{capital_of, capitals, is_run, is_blank, ends_line, Token, begun_by, tokens_of, leading_run}
use Rattle.assembly_rules.specs.Text.Token.{run, mark}
use Rattle.assembly_rules.proofs.TextLaws.{tokens-blank, tokens-end, tokens-mark, run_none, run_more, rest_more, no_run}

-- whether characters begin with one of a run, and whether all are
unfoldable pub begins_run : List ℕ → Bool
begins_run [] = false
begins_run (c ∷ cs) = is_run c

unfoldable pub all_run : List ℕ → Bool
all_run [] = true
all_run (c ∷ cs) = is_run c && all_run cs

-- characters that write some tokens: blanks anywhere between them, runs in small letters or capitals, a comment behind them
pub data Writes : List Token → List ℕ → Type 0 where
  nothing : Writes [] []
  comment : (c : ℕ) (cs : List ℕ) → is_run c ≡ false → ends_line c ≡ true → Writes [] (c ∷ cs)
  blank : {ts : List Token} {cs : List ℕ} (c : ℕ) → is_blank c ≡ true → Writes ts cs → Writes ts (c ∷ cs)
  single : {ts : List Token} {cs : List ℕ} (c : ℕ) → is_run c ≡ false → ends_line c ≡ false → is_blank c ≡ false → Writes ts cs → Writes (mark c ∷ ts) (c ∷ cs)
  several : {ts : List Token} {cs : List ℕ} (c : ℕ) (r : List ℕ) → all_run (c ∷ r) ≡ true → begins_run cs ≡ false → Writes ts cs → Writes (run (capitals (c ∷ r)) ∷ ts) ((c ∷ r) ++ cs)

pub both_left : (a b : Bool) → a && b ≡ true → a ≡ true
both_left true b h = refl
both_left false b h = absurd (false≢true h)

pub both_right : (a b : Bool) → a && b ≡ true → b ≡ true
both_right true b h = h
both_right false b h = absurd (false≢true h)

run-empty : leading_run [] ≡ []
unfolding leading_run begun_by
run-empty = refl

tokens-empty : tokens_of [] ≡ []
unfolding tokens_of begun_by
tokens-empty = refl

none-begins : (cs : List ℕ) → begins_run cs ≡ false → leading_run cs ≡ []
unfolding begins_run
none-begins [] h = run-empty
none-begins (c ∷ cs) h = run_none c cs h

-- a run in front of what begins none
front-run : (r cs : List ℕ) → all_run r ≡ true → begins_run cs ≡ false → (leading_run (r ++ cs) ≡ capitals r) × ((begun_by (r ++ cs)).rest ≡ tokens_of cs)
unfolding all_run capitals
front-run [] cs h k = let n = none-begins cs k in (n, no_run cs n)
front-run (c ∷ r) cs h k =
    let a = both_left (is_run c) (all_run r) h in
    let later = front-run r cs (both_right (is_run c) (all_run r) h) k in
    (run_more c (r ++ cs) a ∙ ap (λ (x : List ℕ). capital_of c ∷ x) later.0, rest_more c (r ++ cs) a ∙ later.1)

tokens-several : (c : ℕ) (r cs : List ℕ) → all_run (c ∷ r) ≡ true → begins_run cs ≡ false → tokens_of ((c ∷ r) ++ cs) ≡ run (capitals (c ∷ r)) ∷ tokens_of cs
unfolding tokens_of leading_run capitals
tokens-several c r cs h k = let f = front-run (c ∷ r) cs h k in rw (f.0, f.1)

-- the tokens of what writes some are these
pub written : {ts : List Token} {cs : List ℕ} → Writes ts cs → tokens_of cs ≡ ts
written nothing = tokens-empty
written (comment c cs h k) = tokens-end c cs h k
written (blank {ts = ts} {cs = cs} c h w) = tokens-blank c cs h ∙ written w
written (single {ts = ts} {cs = cs} c h k l w) = tokens-mark c cs h k l ∙ ap (λ (x : List Token). mark c ∷ x) (written w)
written (several {ts = ts} {cs = cs} c r h k w) = tokens-several c r cs h k ∙ ap (λ (x : List Token). run (capitals (c ∷ r)) ∷ x) (written w)

empty-writes : Writes (begun_by []).rest []
unfolding begun_by
empty-writes = nothing

run-first : (cs : List ℕ) (c : ℕ) (r : List ℕ) → leading_run cs ≡ capitals (c ∷ r) → run (capitals (c ∷ r)) ∷ (begun_by cs).rest ≡ tokens_of cs
unfolding tokens_of leading_run capitals
run-first cs c r e = rw e

-- characters as a run and what writes the tokens behind it
record Split (cs : List ℕ) : Type 0 where
  front : List ℕ
  later : List ℕ
  text : cs ≡ front ++ later
  runs : all_run front ≡ true
  ends : begins_run later ≡ false
  writes : Writes (begun_by cs).rest later

split-run : (c : ℕ) (cs : List ℕ) → is_run c ≡ true → Split cs → Split (c ∷ cs)
unfolding all_run
split-run c cs h s =
    record {
      front = c ∷ s.front;
      later = s.later;
      text = ap (λ (x : List ℕ). c ∷ x) s.text;
      runs = rw (h, s.runs);
      ends = s.ends;
      writes = rw (rest_more c cs h) s.writes;
    }

-- a split is a way of writing
split-writes : (cs : List ℕ) → Split cs → Writes (tokens_of cs) cs
split-writes cs s = go s.front s.text s.runs
  where
    go : (f : List ℕ) → cs ≡ f ++ s.later → all_run f ≡ true → Writes (tokens_of cs) cs
    go [] e r =
        let n : leading_run cs ≡ [] = ap leading_run e ∙ none-begins s.later s.ends in
        let w : Writes (tokens_of cs) s.later = subst (λ (x : List Token). Writes x s.later) (no_run cs n) s.writes in
        subst (λ (x : List ℕ). Writes (tokens_of cs) x) (sym e) w
    go (c ∷ r) e h =
        let f = front-run (c ∷ r) s.later h s.ends in
        let t : run (capitals (c ∷ r)) ∷ (begun_by cs).rest ≡ tokens_of cs = run-first cs c r (ap leading_run e ∙ f.0) in
        subst (λ (x : List Token). Writes x cs) t (subst (λ (x : List ℕ). Writes (run (capitals (c ∷ r)) ∷ (begun_by cs).rest) x) (sym e) (several c r h s.ends s.writes))

split_one : (c : ℕ) (cs : List ℕ) → is_run c ≡ false → Writes (tokens_of cs) cs → Split (c ∷ cs)
unfolding all_run begins_run
split_one c cs h w = record { front = []; later = c ∷ cs; text = refl; runs = refl; ends = h; writes = rw (no_run (c ∷ cs) (run_none c cs h)) (go (ends_line c) refl (is_blank c) refl) }
  where
    go : (e : Bool) → ends_line c ≡ e → (b : Bool) → is_blank c ≡ b → Writes (tokens_of (c ∷ cs)) (c ∷ cs)
    go true p b q = rw (tokens-end c cs h p) (comment c cs h p)
    go false p true q = rw (tokens-blank c cs q) (blank c q w)
    go false p false q = rw (tokens-mark c cs h p q) (single c h p q w)

splits : (cs : List ℕ) → Split cs
unfolding all_run begins_run
splits [] = record { front = []; later = []; text = refl; runs = refl; ends = refl; writes = empty-writes }
splits (c ∷ cs) = go (is_run c) refl (splits cs)
  where
    go : (b : Bool) → is_run c ≡ b → Split cs → Split (c ∷ cs)
    go true e s = split-run c cs e s
    go false e s = split_one c cs e (split-writes cs s)

-- and all characters write their tokens
pub all-written : (cs : List ℕ) → Writes (tokens_of cs) cs
all-written cs = split-writes cs (splits cs)
