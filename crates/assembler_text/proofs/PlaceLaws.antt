-- Places in a text and the tokens there: how far a run of characters goes, and which token stands at a place.
-- Assumes nothing.
use mathlib.Core.Path.{◌≡◌, refl, sym, ap, subst, ◌∙◌}
use mathlib.Core.Bool.{Bool, true, false, ◌&&◌, ◌||◌, false≢true}
use mathlib.Core.List.{List, [], ◌∷◌}
use Prim.Native.Nat.{ℕ, suc, ◌+◌, ◌-◌, ◌≤◌, ◌<◌}
use native.Mathlib.Nat.{add-zero}
use native.Mathlib.Numerals.{add-one}
use native.Mathlib.Omega.{arith}
use lib.Dec.{eqb, leb}
use lib.ListN.{length, get_or, take, drop, drop_of_length-le, length-drop}
use lib.Seq.{length-take-le, drop-cons, drop-drop, get_or-drop}
use borrow.Author.Tests.{eqb-true, leb-true, leb-false}
use Rattle.ground_rules.specs.Choice.{pick}
use Rattle.assembly_rules.specs.declared.Role.{Role}
use Rattle.assembly_rules.specs.declared.Role.TheVariants.{Term, Plus, Minus, Opens, Closes, Other}
use Rattle.assembly_rules.specs.declared.Scan.{Scan}
use Rattle.assembly_rules.specs.Text.{capital_of, capitals, is_run, is_blank, ends_line, Token, begun_by, tokens_of, leading_run, before_comma}
use Rattle.assembly_rules.specs.Text.Token.{run, mark}
use Rattle.assembly_rules.specs.Sums.{is_term, mark_role, role_of, scanned, scan_from, is_sign, begins_sign, begins_minus, first_sign, past_minus}
use Rattle.assembly_rules.proofs.TextLaws.{tokens-blank, tokens-end, tokens-mark, run_none, run_more, rest_more, no_run}
use Rattle.std.proofs.lemmas.Option.{none-some, some_pair_parts}
use Rattle.std.specs.declared.option.Option.{Option}
use Rattle.std.specs.declared.option.Option.TheVariants.{None, Some}
use Rattle.assembler_text.specs.declared.tokens.TokenFound.{TokenFound as Found}
use Rattle.assembler_text.specs.declared.tokens.TokenFound.TheVariants.{Run, Mark}
use Rattle.assembler_text.specs.declared.values.Sign.{Sign}
use Rattle.assembler_text.specs.declared.values.Sign.TheVariants as sign
use Rattle.assembler_text.specs.Places.{leading, past_blanks, run_end, between, token_from, token_at, ahead_by, role_at, mark_of, sign_by, sign_at, lead_by, lead_at, name_at}

-- the characters from a place on: the one there, and those behind it
pub from-here : (s : List ℕ) (i : ℕ) → i < length s → drop i s ≡ get_or s i 0 ∷ drop (i + 1) s
from-here s i h = rw (add-one i, drop-cons s i 0)

module _ (test : ℕ → Bool) (text : List ℕ) (i : ℕ) where
  -- past the end nothing passes a test
  pub lead-end : length text ≤ i → leading test (drop i text) ≡ 0
  unfolding leading
  lead-end h = ap (leading test) (drop_of_length-le text h)

  -- nor where the character there fails it
  pub lead-here : i < length text → test (get_or text i 0) ≡ false → leading test (drop i text) ≡ 0
  unfolding leading
  lead-here h e = ap (leading test) (from-here text i h) ∙ rw e

  pub lead-next : i < length text → test (get_or text i 0) ≡ true → leading test (drop i text) ≡ leading test (drop (i + 1) text) + 1
  unfolding leading
  lead-next h e = ap (leading test) (from-here text i h) ∙ rw e (sym (add-one (leading test (drop (i + 1) text))))

-- no more characters than there are pass a test, and the one behind them fails it
lead-most : (test : ℕ → Bool) (cs : List ℕ) → leading test cs ≤ length cs
unfolding leading
lead-most test [] = omega arith
lead-most test (c ∷ cs) = go (test c) (lead-most test cs)
  where
    go : (b : Bool) → leading test cs ≤ length cs → pick b (suc (leading test cs)) 0 ≤ length (c ∷ cs)
    go true h = omega arith
    go false h = omega arith

pub lead-fails : (test : ℕ → Bool) (cs : List ℕ) → leading test cs < length cs → test (get_or cs (leading test cs) 0) ≡ false
unfolding leading
lead-fails test [] h = absurd (omega arith)
lead-fails test (c ∷ cs) h = go (test c) refl h (lead-fails test cs)
  where
    go : (b : Bool) → test c ≡ b → pick b (suc (leading test cs)) 0 < length (c ∷ cs) → (leading test cs < length cs → test (get_or cs (leading test cs) 0) ≡ false) → test (get_or (c ∷ cs) (pick b (suc (leading test cs)) 0) 0) ≡ false
    go true e l later = later (omega arith)
    go false e l later = e

-- blanks before a token do not matter
past-tokens : (cs : List ℕ) → tokens_of cs ≡ tokens_of (drop (leading is_blank cs) cs)
unfolding leading
past-tokens [] = refl
past-tokens (c ∷ cs) = go (is_blank c) refl (past-tokens cs)
  where
    go : (b : Bool) → is_blank c ≡ b → tokens_of cs ≡ tokens_of (drop (leading is_blank cs) cs) → tokens_of (c ∷ cs) ≡ tokens_of (drop (pick b (suc (leading is_blank cs)) 0) (c ∷ cs))
    go true e later = tokens-blank c cs e ∙ later
    go false e later = refl

tokens-empty : tokens_of [] ≡ []
unfolding tokens_of begun_by
tokens-empty = refl

run-empty : leading_run [] ≡ []
unfolding leading_run begun_by
run-empty = refl

-- the run that characters begin with, and the tokens behind it
run-lead : (cs : List ℕ) → (leading_run cs ≡ capitals (take (leading is_run cs) cs)) × ((begun_by cs).rest ≡ tokens_of (drop (leading is_run cs) cs))
unfolding leading capitals
run-lead [] = (run-empty, no_run [] run-empty)
run-lead (c ∷ cs) = go (is_run c) refl (run-lead cs)
  where
    go : (b : Bool) → is_run c ≡ b → (leading_run cs ≡ capitals (take (leading is_run cs) cs)) × ((begun_by cs).rest ≡ tokens_of (drop (leading is_run cs) cs))
        → (leading_run (c ∷ cs) ≡ capitals (take (pick b (suc (leading is_run cs)) 0) (c ∷ cs))) × ((begun_by (c ∷ cs)).rest ≡ tokens_of (drop (pick b (suc (leading is_run cs)) 0) (c ∷ cs)))
    go true e later = (run_more c cs e ∙ ap (λ (x : List ℕ). capital_of c ∷ x) later.0, rest_more c cs e ∙ later.1)
    go false e later = let n = run_none c cs e in (n, no_run (c ∷ cs) n)

-- a token that was found, with those behind it
unfoldable pub told : List ℕ → Option Found → List Token
told text None = []
told text (Some (Run from to)) = run (capitals (between text from to)) ∷ tokens_of (drop to text)
told text (Some (Mark c next)) = mark c ∷ tokens_of (drop next text)

-- it lies in the text, from a place on
unfoldable pub Lies : List ℕ → ℕ → Option Found → Type 0
Lies text at None = Unit
Lies text at (Some (Run from to)) = (at ≤ from) × (from < to) × (to ≤ length text) × (to ≡ run_end text from)
Lies text at (Some (Mark c next)) = (at < next) × (next ≤ length text)

-- some characters behind others are those of a part
part-take : (from n : ℕ) (text : List ℕ) → between text from (from + n) ≡ take n (drop from text)
part-take from n text = let e : from + n - from ≡ n = omega arith in ap (λ (k : ℕ). take k (drop from text)) e

first_run : (cs : List ℕ) (c : ℕ) (more : List ℕ) → leading_run cs ≡ c ∷ more → (front : List ℕ) (rest : List Token) → leading_run cs ≡ front → (begun_by cs).rest ≡ rest → tokens_of cs ≡ run front ∷ rest
unfolding tokens_of leading_run
first_run cs c more e front rest f g = rw (e, g) (ap (λ (x : List ℕ). run x ∷ rest) (sym e ∙ f))

-- the token that a run of characters begins
tokens-run : (cs : List ℕ) → is_run (get_or cs 0 0) ≡ true → 0 < length cs → tokens_of cs ≡ run (capitals (take (leading is_run cs) cs)) ∷ tokens_of (drop (leading is_run cs) cs)
tokens-run [] h l = absurd (omega arith)
tokens-run (c ∷ cs) h l = let r = run-lead (c ∷ cs) in first_run (c ∷ cs) (capital_of c) (leading_run cs) (run_more c cs h) (capitals (take (leading is_run (c ∷ cs)) (c ∷ cs))) (tokens_of (drop (leading is_run (c ∷ cs)) (c ∷ cs))) r.0 r.1

run-some : (cs : List ℕ) → is_run (get_or cs 0 0) ≡ true → 0 < length cs → 0 < leading is_run cs
unfolding leading
run-some [] h l = absurd (omega arith)
run-some (c ∷ cs) h l = rw h (omega arith)

-- what stands at a place that is no blank
module _ (text : List ℕ) (from : ℕ) (inside : from < length text) where
  here : drop from text ≡ get_or text from 0 ∷ drop (from + 1) text
  here = from-here text from inside

  run-there : is_run (get_or text from 0) ≡ true → (tokens_of (drop from text) ≡ told text (Some (Run from (run_end text from)))) × Lies text from (Some (Run from (run_end text from)))
  unfolding told Lies run_end
  run-there h =
      let cs = drop from text in
      let n = leading is_run cs in
      let g : is_run (get_or cs 0 0) ≡ true = ap is_run (get_or-drop from text 0 0 ∙ ap (λ (k : ℕ). get_or text k 0) (add-zero from)) ∙ h in
      let l : 0 < length cs = omega (arith, length-drop from text) in
      let t = tokens-run cs g l in (
        t ∙ ap (λ (x : List ℕ). run (capitals x) ∷ tokens_of (drop n cs)) (sym (part-take from n text)) ∙ ap (λ (x : List ℕ). run (capitals (between text from (from + n))) ∷ tokens_of x) (drop-drop n from text),
        (omega arith, omega (arith, run-some cs g l), omega (arith, lead-most is_run cs, length-drop from text), refl),
      )

  mark-there : is_run (get_or text from 0) ≡ false → ends_line (get_or text from 0) ≡ false → is_blank (get_or text from 0) ≡ false → tokens_of (drop from text) ≡ told text (Some (Mark (get_or text from 0) (from + 1)))
  unfolding told
  mark-there h k l = ap tokens_of here ∙ tokens-mark (get_or text from 0) (drop (from + 1) text) h k l

  end-there : is_run (get_or text from 0) ≡ false → ends_line (get_or text from 0) ≡ true → tokens_of (drop from text) ≡ []
  end-there h k = ap tokens_of here ∙ tokens-end (get_or text from 0) (drop (from + 1) text) h k

-- the run at a place by its end
pub run-name : (text : List ℕ) (from to : ℕ) → to ≡ run_end text from → name_at text from ≡ capitals (between text from to)
unfolding name_at run_end
run-name text from to e = (run-lead (drop from text)).0 ∙ ap capitals (sym (part-take from (leading is_run (drop from text)) text)) ∙ ap (λ (n : ℕ). capitals (between text from n)) (sym e)

-- a token at a place: with those behind it they are the tokens from the place on, and it lies in the text
pub record Stands (text : List ℕ) (at : ℕ) (f : Option Found) : Type 0 where
  pub tokens : tokens_of (drop at text) ≡ told text f
  pub lies : Lies text at f

no-tokens : (text : List ℕ) (from : ℕ) → length text ≤ from → tokens_of (drop from text) ≡ []
no-tokens text from h = ap tokens_of (drop_of_length-le text h) ∙ tokens-empty

stands_from : (text : List ℕ) (from : ℕ) → (from < length text → is_blank (get_or text from 0) ≡ false) → Stands text from (token_from text from)
unfolding token_from told Lies
stands_from text from plain = go (leb (length text) from) refl (is_run (get_or text from 0)) refl (ends_line (get_or text from 0)) refl
  where
    go : (a : Bool) → leb (length text) from ≡ a → (b : Bool) → is_run (get_or text from 0) ≡ b → (d : Bool) → ends_line (get_or text from 0) ≡ d
        → Stands text from (pick a None (pick b (Some (Run from (run_end text from))) (pick d None (Some (Mark (get_or text from 0) (from + 1))))))
    go true p b q d r = record { tokens = no-tokens text from (leb-true (length text) from p); lies = tt }
    go false p true q d r = let s = run-there text from (leb-false (length text) from p) q in record { tokens = s.0; lies = s.1 }
    go false p false q true r = record { tokens = end-there text from (leb-false (length text) from p) q r; lies = tt }
    go false p false q false r =
        let l = leb-false (length text) from p in
        record { tokens = mark-there text from l q r (plain l); lies = (omega arith, omega arith) }

-- a token found from a later place lies behind an earlier one too
lies-before : (text : List ℕ) (at from : ℕ) (f : Option Found) → at ≤ from → Lies text from f → Lies text at f
unfolding Lies
lies-before text at from None l h = tt
lies-before text at from (Some (Run a b)) l h = (omega (arith, h.0), h.1, h.2, h.3)
lies-before text at from (Some (Mark c next)) l h = (omega (arith, h.0), h.1)

-- the token at a place
pub stands : (text : List ℕ) (at : ℕ) → Stands text at (token_at text at)
unfolding token_at past_blanks
stands text at =
    let cs = drop at text in
    let n = leading is_blank cs in
    let from = at + n in
    let s = stands_from text from (λ l. ap is_blank (sym (get_or-drop at text n 0)) ∙ lead-fails is_blank cs (omega (arith, length-drop at text))) in
    record { tokens = past-tokens cs ∙ ap tokens_of (drop-drop n at text) ∙ s.tokens; lies = lies-before text at from (token_from text from) (omega arith) s.lies }

-- a choice whose test is known
pub chosen : {A : Type 0} (b : Bool) (x y : A) → b ≡ true → pick b x y ≡ x
chosen b x y h = rw h

pub passed : {A : Type 0} (b : Bool) (x y : A) → b ≡ false → pick b x y ≡ y
passed b x y h = rw h

-- where a token that was found lies, and which tokens stand there
module _ (text : List ℕ) (at : ℕ) where
  pub run_lies : (from to : ℕ) → token_at text at ≡ Some (Run from to) → (at ≤ from) × (from < to) × (to ≤ length text) × (to ≡ run_end text from)
  unfolding Lies
  run_lies from to e = subst (Lies text at) e (stands text at).lies

  pub mark-lies : (c next : ℕ) → token_at text at ≡ Some (Mark c next) → (at < next) × (next ≤ length text)
  unfolding Lies
  mark-lies c next e = subst (Lies text at) e (stands text at).lies

  pub no-tokens-there : token_at text at ≡ None → tokens_of (drop at text) ≡ []
  unfolding told
  no-tokens-there e = (stands text at).tokens ∙ ap (told text) e

  pub run-tokens : (from to : ℕ) → token_at text at ≡ Some (Run from to) → tokens_of (drop at text) ≡ run (capitals (between text from to)) ∷ tokens_of (drop to text)
  unfolding told
  run-tokens from to e = (stands text at).tokens ∙ ap (told text) e

  pub mark-tokens : (c next : ℕ) → token_at text at ≡ Some (Mark c next) → tokens_of (drop at text) ≡ mark c ∷ tokens_of (drop next text)
  unfolding told
  mark-tokens c next e = (stands text at).tokens ∙ ap (told text) e

-- what stands at a place in a sum
pub data PartStands (text : List ℕ) (at : ℕ) : Option (Role × ℕ) → Type 0 where
  stops : before_comma (tokens_of (drop at text)) ≡ [] → PartStands text at None
  goes : (t : Token) (next : ℕ) → before_comma (tokens_of (drop at text)) ≡ t ∷ before_comma (tokens_of (drop next text)) → at < next → next ≤ length text → PartStands text at (Some (role_of t, next))

pub before-none : before_comma [] ≡ []
unfolding before_comma
before-none = refl

pub before-run : (r : List ℕ) (ts : List Token) → before_comma (run r ∷ ts) ≡ run r ∷ before_comma ts
unfolding before_comma
before-run r ts = refl

pub before-mark : (c : ℕ) (ts : List Token) (b : Bool) → eqb c 44 ≡ b → before_comma (mark c ∷ ts) ≡ pick b [] (mark c ∷ before_comma ts)
unfolding before_comma
before-mark c ts b e = rw e

run-part : (r : List ℕ) (b : Bool) → is_term r ≡ b → role_of (run r) ≡ pick b Term Other
unfolding role_of
run-part r b e = rw e

mark-role : (c : ℕ) → role_of (mark c) ≡ mark_role c
unfolding role_of
mark-role c = refl

part_by : (text : List ℕ) (at : ℕ) (f : Option Found) → Stands text at f → PartStands text at (ahead_by text f)
unfolding told Lies
part_by text at None s = stops (ap before_comma s.tokens ∙ before-none)
part_by text at (Some (Run from to)) s = subst (λ (p : Role). PartStands text at (Some (p, to))) (run-part r (is_term r) refl) (goes (run r) to text-so (omega (arith, s.lies.0, s.lies.1)) s.lies.2)
  where
    r : List ℕ
    r = capitals (between text from to)

    text-so : before_comma (tokens_of (drop at text)) ≡ run r ∷ before_comma (tokens_of (drop to text))
    text-so = ap before_comma s.tokens ∙ before-run r (tokens_of (drop to text))
part_by text at (Some (Mark c next)) s = go (eqb c 44) refl
  where
    go : (b : Bool) → eqb c 44 ≡ b → PartStands text at (pick b None (Some (mark_role c, next)))
    go true e = stops (ap before_comma s.tokens ∙ before-mark c (tokens_of (drop next text)) true e)
    go false e = subst (λ (p : Role). PartStands text at (Some (p, next))) (mark-role c) (goes (mark c) next (ap before_comma s.tokens ∙ before-mark c (tokens_of (drop next text)) false e) s.lies.0 s.lies.1)

pub part-stands : (text : List ℕ) (at : ℕ) → PartStands text at (role_at text at)
unfolding role_at
part-stands text at = part_by text at (token_at text at) (stands text at)

-- a scan stops, or goes on behind one more token
abbrev pub scan_at : Scan → List ℕ → ℕ → Scan
scan_at s text at = scan_from s (before_comma (tokens_of (drop at text)))

scan-none : (s : Scan) → scan_from s [] ≡ s
unfolding scan_from
scan-none s = refl

scan-one : (s : Scan) (t : Token) (ts : List Token) → scan_from s (t ∷ ts) ≡ scan_from (scanned s (role_of t)) ts
unfolding scan_from
scan-one s t ts = refl

pub scan-stops : (s : Scan) (text : List ℕ) (at : ℕ) {a : Option (Role × ℕ)} → PartStands text at a → a ≡ None → scan_at s text at ≡ s
scan-stops s text at (stops e) h = ap (scan_from s) e ∙ scan-none s
scan-stops s text at (goes t next e l m) h = absurd (none-some _ (sym h))

pub record GoesOn (s : Scan) (text : List ℕ) (at : ℕ) (p : Role) (next : ℕ) : Type 0 where
  pub same : scan_at s text at ≡ scan_at (scanned s p) text next
  pub more : at < next
  pub inside : next ≤ length text

pub scan-goes : (s : Scan) (text : List ℕ) (at : ℕ) {a : Option (Role × ℕ)} → PartStands text at a → (p : Role) (next : ℕ) → a ≡ Some (p, next) → GoesOn s text at p next
scan-goes s text at (stops e) p next h = absurd (none-some _ h)
scan-goes s text at (goes t n1 e l m) p next h =
    let same = some_pair_parts _ _ _ _ h in
    rw (← same.1) (record { same = ap (scan_from s) e ∙ scan-one s t (before_comma (tokens_of (drop n1 text))) ∙ ap (λ (x : Role). scan_at (scanned s x) text n1) same.0; more = l; inside = m })

either-most : (b : Bool) (x y : Scan) {n : ℕ} → x.opened ≤ n → y.opened ≤ n → (pick b x y).opened ≤ n
either-most true x y h k = h
either-most false x y h k = k

-- one token opens at most one parenthesis more
pub opened-most : (s : Scan) (p : Role) → (scanned s p).opened ≤ s.opened + 1
unfolding scanned
opened-most s Term = either-most s.due _ _ (omega arith) (omega arith)
opened-most s Plus = either-most s.due _ _ (omega arith) (omega arith)
opened-most s Minus = either-most (s.due && s.begins) _ _ (omega arith) (either-most s.due _ _ (omega arith) (omega arith))
opened-most s Opens = either-most s.due _ _ (omega arith) (omega arith)
opened-most s Closes = either-most (s.due || eqb s.opened 0) _ _ (omega arith) (omega arith)
opened-most s Other = omega arith

-- the sign at a place
pub record SignStands (text : List ℕ) (at : ℕ) (g : Option (Sign × ℕ)) : Type 0 where
  pub none : g ≡ None → begins_sign (tokens_of (drop at text)) ≡ false
  pub some : (s : Sign) (next : ℕ) → g ≡ Some (s, next) → tokens_of (drop at text) ≡ mark (mark_of s) ∷ tokens_of (drop next text)

pub is-sign : (s : Sign) → is_sign (mark_of s) ≡ true
is-sign sign.Plus = refl
is-sign sign.Minus = refl

sign-by : (text : List ℕ) (at : ℕ) (f : Option Found) → Stands text at f → SignStands text at (sign_by f)
unfolding told
sign-by text at None s = record { none = λ h. rw s.tokens; some = λ g next h. absurd (none-some _ h) }
sign-by text at (Some (Run from to)) s = record { none = λ h. rw s.tokens; some = λ g next h. absurd (none-some _ h) }
sign-by text at (Some (Mark c next)) s = go (eqb c 43) refl (eqb c 45) refl
  where
    told-so : (n : ℕ) → c ≡ n → tokens_of (drop at text) ≡ mark n ∷ tokens_of (drop next text)
    told-so n e = s.tokens ∙ ap (λ (x : ℕ). mark x ∷ tokens_of (drop next text)) e

    go : (a : Bool) → eqb c 43 ≡ a → (b : Bool) → eqb c 45 ≡ b → SignStands text at (pick a (Some (sign.Plus, next)) (pick b (Some (sign.Minus, next)) None))
    go true e b f = record { none = λ h. absurd (none-some _ (sym h)); some = λ g n h. let p = some_pair_parts _ _ _ _ h in rw (← p.0, ← p.1) (told-so 43 (eqb-true c 43 e)) }
    go false e true f = record { none = λ h. absurd (none-some _ (sym h)); some = λ g n h. let p = some_pair_parts _ _ _ _ h in rw (← p.0, ← p.1) (told-so 45 (eqb-true c 45 f)) }
    go false e false f = record { none = λ h. rw s.tokens (rw (e, f)); some = λ g n h. absurd (none-some _ h) }

pub sign-stands : (text : List ℕ) (at : ℕ) → SignStands text at (sign_at text at)
unfolding sign_at
sign-stands text at = sign-by text at (token_at text at) (stands text at)

-- the sign before a sum's first term
pub record LeadStands (text : List ℕ) (at : ℕ) (g : Sign × ℕ) : Type 0 where
  pub sign-is : first_sign (tokens_of (drop at text)) ≡ mark_of g.0
  pub past : past_minus (tokens_of (drop at text)) ≡ tokens_of (drop g.1 text)

unsigned : (ts : List Token) → begins_sign ts ≡ false → begins_minus ts ≡ false
unsigned [] h = refl
unsigned (run r ∷ ts) h = refl
unsigned (mark c ∷ ts) h = go (eqb c 43) (eqb c 45) h
  where
    go : (a b : Bool) → a || b ≡ false → b ≡ false
    go true b k = absurd (false≢true (sym k))
    go false b k = k

lead-stands-by : (text : List ℕ) (at : ℕ) (g : Option (Sign × ℕ)) → SignStands text at g → LeadStands text at (lead_by at g)
lead-stands-by text at None s = let n = unsigned (tokens_of (drop at text)) (s.none refl) in record { sign-is = rw n; past = rw n }
lead-stands-by text at (Some (sign.Plus, next)) s = let t = s.some sign.Plus next refl in record { sign-is = ap first_sign t; past = ap past_minus t ∙ sym t }
lead-stands-by text at (Some (sign.Minus, next)) s = let t = s.some sign.Minus next refl in record { sign-is = ap first_sign t; past = ap past_minus t }

pub lead-stands : (text : List ℕ) (at : ℕ) → LeadStands text at (lead_at text at)
unfolding lead_at
lead-stands text at = lead-stands-by text at (sign_at text at) (sign-stands text at)

-- a part that ends behind its first place has a character
pub part-some : (text : List ℕ) (from to : ℕ) → from < to → to ≤ length text → 0 < length (between text from to)
part-some text from to h k = let l : length (between text from to) ≡ to - from = length-take-le (to - from) (drop from text) (omega (arith, length-drop from text)) in omega (arith, l)
