-- A sum is read as its tree says: to its last token, worth the tree's value mod 65,536, and too deep exactly where the tree is deeper.
-- Assumes nothing.
use mathlib.Core.Path.{◌≡◌, refl, sym, ap, ◌∙◌}
use mathlib.Core.Bool.{Bool, true, false, ◌&&◌}
use mathlib.Core.List.{List, [], ◌∷◌, ◌++◌, append_assoc}
use Prim.Native.Nat.{ℕ, zero, suc, ◌+◌, ◌-◌, ◌%◌, ◌≤◌, ◌<◌}
use native.Mathlib.Omega.{arith}
use lib.Dec.{eqb, leb, lit<}
use lib.ListN.{length, length-append}
use borrow.Author.Tests.{leb-true, leb-false}
use native.Mathlib.Nat.{mod-lt, mod-mod, mod-add-mod, zero-add, add-zero}
use Rattle.ground_rules.specs.Choice.{pick}
use Rattle.std.specs.declared.option.Option.TheVariants.{Some}
use Rattle.assembly_rules.specs.declared.Worth.{Worth}
use Rattle.assembly_rules.specs.Text.{Token}
use Rattle.assembly_rules.specs.Text.Token.{run, mark}
use Rattle.assembly_rules.specs.Numbers.{constant_of}
use Rattle.assembly_rules.specs.Sums.{Label, worth, begins_digit, is_register, greater, combined_worth, label_worth, is_sign, Read, and_then, close_at, rest_with, begins_minus, first_sign, past_minus, sum_with, run_read, term_by, term_of, sum_within}
use Rattle.assembly_rules.specs.Sums.Read.{read, deep}
use Rattle.assembly_rules.specs.Trees.{Sum, Term, sum_tokens, term_tokens, sum_depth, term_depth, sum_added, term_added, sum_taken, term_taken, sum_known, term_known}
use Rattle.assembly_rules.specs.Trees.Sum.{only, more}
use Rattle.assembly_rules.specs.Trees.Term.{constant, name, inside}
use Rattle.assembly_rules.proofs.SumLaws.{term-short, rest-stop, rest-term, rest-enough}

-- a worth that is what is added less what is taken away, mod 65,536
pub record Equals (w : Worth) (added taken : ℕ) (known : Bool) : Type 0 where
  pub value : (w.value + taken) % 65536 ≡ added % 65536
  pub told : w.known ≡ known

-- equal mod 65,536 stays so
pub add-equal : (a b c : ℕ) → a % 65536 ≡ b % 65536 → (a + c) % 65536 ≡ (b + c) % 65536
add-equal a b c h = sym (mod-add-mod a 65536 c) ∙ ap (λ (y : ℕ). (y + c) % 65536) h ∙ mod-add-mod b 65536 c

back-again : (x y : ℕ) → ((x % 65536 + 65536 - y % 65536) % 65536 + y) % 65536 ≡ x % 65536
back-again x y = omega arith

both-reduced : (x y : ℕ) → (x % 65536 + y % 65536) % 65536 ≡ (x + y) % 65536
both-reduced x y = omega arith

taken-away : (x y p q r s : ℕ) → (x + q) % 65536 ≡ p % 65536 → (y + s) % 65536 ≡ r % 65536 → ((x % 65536 + 65536 - y % 65536) % 65536 + (q + r)) % 65536 ≡ (p + s) % 65536
taken-away x y p q r s h k =
    let z = (x % 65536 + 65536 - y % 65536) % 65536 in
    let a : z + (q + r) ≡ r + (z + q) = omega arith in
    let b : y + s + (z + q) ≡ z + y + (q + s) = omega arith in
    let c : x + (q + s) ≡ x + q + s = omega arith in
    ap (λ (n : ℕ). n % 65536) a ∙ sym (add-equal (y + s) r (z + q) k) ∙ ap (λ (n : ℕ). n % 65536) b ∙ add-equal (z + y) x (q + s) (back-again x y) ∙ ap (λ (n : ℕ). n % 65536) c ∙ add-equal (x + q) p s h

put-to : (x y p q r s : ℕ) → (x + q) % 65536 ≡ p % 65536 → (y + s) % 65536 ≡ r % 65536 → ((x % 65536 + y % 65536) % 65536 + (q + s)) % 65536 ≡ (p + r) % 65536
put-to x y p q r s h k =
    let z = (x % 65536 + y % 65536) % 65536 in
    let reduced : z % 65536 ≡ (x + y) % 65536 = mod-mod (x % 65536 + y % 65536) 65536 ∙ both-reduced x y in
    let a : x + y + (q + s) ≡ x + q + (y + s) = omega arith in
    let b : p + (y + s) ≡ y + s + p = omega arith in
    let c : r + p ≡ p + r = omega arith in
    add-equal z (x + y) (q + s) reduced ∙ ap (λ (n : ℕ). n % 65536) a ∙ add-equal (x + q) p (y + s) h ∙ ap (λ (n : ℕ). n % 65536) b ∙ add-equal (y + s) r p k ∙ ap (λ (n : ℕ). n % 65536) c

-- a term's worth added to another, or taken away
combined-equals : (minus : Bool) (a b : Worth) (p q r s : ℕ) (k l : Bool) → Equals a p q k → Equals b r s l
    → Equals (combined_worth (pick minus 45 43) a b) (p + pick minus s r) (q + pick minus r s) (k && l)
unfolding combined_worth
combined-equals true a b p q r s k l e f = record { value = taken-away a.value b.value p q r s e.value f.value; told = rw (e.told, f.told) }
combined-equals false a b p q r s k l e f = record { value = put-to a.value b.value p q r s e.value f.value; told = rw (e.told, f.told) }

-- a term read, or too deep
pub record TermRead (depth : ℕ) (labels : List Label) (t : Term) (ts : List Token) : Type 0 where
  pub worth-read : term_depth t ≤ depth → (w : Worth) × ((term_of depth labels (term_tokens t ++ ts) ≡ read w ts) × Equals w (term_added labels t) (term_taken labels t) (term_known labels t))
  pub too-deep : depth < term_depth t → term_of depth labels (term_tokens t ++ ts) ≡ deep

-- a sum read up to some tokens, with which it goes on
pub record SumRead (depth : ℕ) (labels : List Label) (s : Sum) (ts : List Token) : Type 0 where
  pub worth-read : sum_depth s ≤ depth → (w : Worth) × ((sum_within depth labels (sum_tokens s ++ ts) ≡ rest_with (term_of depth labels) (length ts) w ts) × (Equals w (sum_added labels s) (sum_taken labels s) (sum_known labels s) × (w.value < 65536)))
  pub too-deep : depth < sum_depth s → sum_within depth labels (sum_tokens s ++ ts) ≡ deep

larger-both : (a b d : ℕ) → greater a b ≤ d → (a ≤ d) × (b ≤ d)
larger-both a b d h = go (leb a b) refl h
  where
    go : (t : Bool) → leb a b ≡ t → pick t b a ≤ d → (a ≤ d) × (b ≤ d)
    go true e k = let l = leb-true a b e in (omega arith, k)
    go false e k = let l = leb-false a b e in (k, omega arith)

larger-second : (a b d : ℕ) → a ≤ d → d < greater a b → d < b
larger-second a b d l h = go (leb a b) h
  where
    go : (t : Bool) → d < pick t b a → d < b
    go true k = k
    go false k = absurd (omega arith)

-- a sum by its first term
sum_first : (depth : ℕ) (labels : List Label) (ts : List Token) → sum_within depth labels ts ≡ and_then (term_of depth labels (past_minus ts)) (λ x rest. rest_with (term_of depth labels) (length rest) (combined_worth (first_sign ts) (worth 0 true) x) rest)
unfolding sum_within sum_with
sum_first depth labels ts = refl

-- no term begins with a minus
no_minus : (t : Term) (ts : List Token) → begins_minus (term_tokens t ++ ts) ≡ false
unfolding term_tokens
no_minus (constant r v d e) ts = refl
no_minus (name r d e) ts = refl
no_minus (inside s) ts = refl

past-lead : (minus : Bool) (t : Term) (ts : List Token) → (past_minus (sum_tokens (only minus t) ++ ts) ≡ term_tokens t ++ ts) × (first_sign (sum_tokens (only minus t) ++ ts) ≡ pick minus 45 43)
unfolding sum_tokens
past-lead true t ts = (refl, refl)
past-lead false t ts = let n = no_minus t ts in (rw n, rw n)

nothing_yet : Equals (worth 0 true) 0 0 true
nothing_yet = record { value = refl; told = refl }

below : (sign : ℕ) (a b : Worth) → (combined_worth sign a b).value < 65536
unfolding combined_worth
below sign a b = mod-lt (pick (eqb sign 45) (a.value % 65536 + 65536 - b.value % 65536) (a.value % 65536 + b.value % 65536)) (lit< tt)

only-read : (minus : Bool) (t : Term) (depth : ℕ) (labels : List Label) (ts : List Token) → TermRead depth labels t ts → SumRead depth labels (only minus t) ts
unfolding sum_depth sum_added sum_taken sum_known
only-read minus t depth labels ts r =
    let p = past-lead minus t ts in
    let us = sum_tokens (only minus t) ++ ts in
    let term = term_of depth labels in
    let whole : sum_within depth labels us ≡ and_then (term (term_tokens t ++ ts)) (λ x rest. rest_with term (length rest) (combined_worth (pick minus 45 43) (worth 0 true) x) rest) =
    sum_first depth labels us ∙ rw (p.0, p.1) in
    record {
      worth-read = λ h.
          let a = r.worth-read h in
          let w = a.0 in
          let e = combined-equals minus (worth 0 true) w 0 0 (term_added labels t) (term_taken labels t) true (term_known labels t) nothing_yet a.1.1 in
          (combined_worth (pick minus 45 43) (worth 0 true) w, (whole ∙ ap (λ (x : Read). and_then x (λ x rest. rest_with term (length rest) (combined_worth (pick minus 45 43) (worth 0 true) x) rest)) a.1.0, (rw (zero-add, zero-add) at e, below (pick minus 45 43) (worth 0 true) w)));
      too-deep = λ h. whole ∙ ap (λ (x : Read). and_then x (λ x rest. rest_with term (length rest) (combined_worth (pick minus 45 43) (worth 0 true) x) rest)) (r.too-deep h);
    }

sign-is : (minus : Bool) → is_sign (pick minus 45 43) ≡ true
sign-is true = refl
sign-is false = refl

more-read : (s : Sum) (minus : Bool) (t : Term) (depth : ℕ) (labels : List Label) (ts : List Token) → ((us : List Token) → SumRead depth labels s us) → TermRead depth labels t ts → SumRead depth labels (more s minus t) ts
unfolding sum_depth sum_added sum_taken sum_known sum_tokens
more-read s minus t depth labels ts all r =
    let sign : ℕ = pick minus 45 43 in
    let vs = term_tokens t ++ ts in
    let us = mark sign ∷ vs in
    let term = term_of depth labels in
    let before = all us in
    let text : (sum_tokens s ++ (mark sign ∷ term_tokens t)) ++ ts ≡ sum_tokens s ++ us = append_assoc (sum_tokens s) (mark sign ∷ term_tokens t) ts in
    let on : (w : Worth) → rest_with term (length us) w us ≡ and_then (term vs) (λ x rest. rest_with term (length vs) (combined_worth sign w x) rest) = λ w. rest-term term (length vs) w sign vs (sign-is minus) in
    let shorter : length ts ≤ length vs = omega (arith, length-append (term_tokens t) ts) in
    record {
      worth-read = λ h.
          let l = larger-both (sum_depth s) (term_depth t) depth h in
          let a = before.worth-read l.0 in
          let b = r.worth-read l.1 in
          let w = a.0 in
          let x = b.0 in (
            combined_worth sign w x,
            (
              ap (sum_within depth labels) text ∙ a.1.0 ∙ on w ∙ ap (λ (y : Read). and_then y (λ x rest. rest_with term (length vs) (combined_worth sign w x) rest)) b.1.0 ∙ rest-enough term (term-short depth labels) (length vs) (length ts) (combined_worth sign w x) ts shorter (omega arith),
              (combined-equals minus w x (sum_added labels s) (sum_taken labels s) (term_added labels t) (term_taken labels t) (sum_known labels s) (term_known labels t) a.1.1.0 b.1.1, below sign w x),
            ),
          );
      too-deep = λ h. ap (sum_within depth labels) text ∙ deep-by (leb (sum_depth s) depth) refl h on;
    }
  where
    deep-by : (b : Bool) → leb (sum_depth s) depth ≡ b → depth < greater (sum_depth s) (term_depth t)
        → ((w : Worth) → rest_with (term_of depth labels) (length (mark (pick minus 45 43) ∷ (term_tokens t ++ ts))) w (mark (pick minus 45 43) ∷ (term_tokens t ++ ts)) ≡ and_then (term_of depth labels (term_tokens t ++ ts)) (λ x rest. rest_with (term_of depth labels) (length (term_tokens t ++ ts)) (combined_worth (pick minus 45 43) w x) rest))
        → sum_within depth labels (sum_tokens s ++ (mark (pick minus 45 43) ∷ (term_tokens t ++ ts))) ≡ deep
    deep-by false e h on = (all (mark (pick minus 45 43) ∷ (term_tokens t ++ ts))).too-deep (leb-false (sum_depth s) depth e)
    deep-by true e h on =
        let l = leb-true (sum_depth s) depth e in
        let a = (all (mark (pick minus 45 43) ∷ (term_tokens t ++ ts))).worth-read l in
        a.1.0 ∙ on a.0 ∙ ap (λ (y : Read). and_then y (λ x rest. rest_with (term_of depth labels) (length (term_tokens t ++ ts)) (combined_worth (pick minus 45 43) a.0 x) rest)) (r.too-deep (larger-second (sum_depth s) (term_depth t) depth l h))

constant-read : (r : List ℕ) (v : ℕ) (d : begins_digit r ≡ true) (e : constant_of r ≡ Some v) (depth : ℕ) (labels : List Label) (ts : List Token) → term_of depth labels (run r ∷ ts) ≡ read (worth v true) ts
unfolding term_of term_by run_read
constant-read r v d e zero labels ts = rw (d, e)
constant-read r v d e (suc depth) labels ts = rw (d, e)

name-read : (r : List ℕ) (d : begins_digit r ≡ false) (e : is_register r ≡ false) (depth : ℕ) (labels : List Label) (ts : List Token) → term_of depth labels (run r ∷ ts) ≡ read (label_worth labels r) ts
unfolding term_of term_by run_read
name-read r d e zero labels ts = rw (d, e)
name-read r d e (suc depth) labels ts = rw (d, e)

sum-closed : (depth : ℕ) (labels : List Label) (us : List Token) → term_of (suc depth) labels (mark 40 ∷ us) ≡ and_then (sum_within depth labels us) close_at
unfolding sum_within term_of term_by
sum-closed depth labels us = refl

inside-read : (s : Sum) (depth : ℕ) (labels : List Label) (ts : List Token) → ((d : ℕ) → SumRead d labels s (mark 41 ∷ ts)) → TermRead depth labels (inside s) ts
unfolding term_tokens term_depth term_added term_taken term_known term_of term_by
inside-read s zero labels ts all = record { worth-read = λ h. absurd (omega arith); too-deep = λ h. refl }
inside-read s (suc depth) labels ts all =
    let r = all depth in
    let text : (sum_tokens s ++ (mark 41 ∷ [])) ++ ts ≡ sum_tokens s ++ (mark 41 ∷ ts) = append_assoc (sum_tokens s) (mark 41 ∷ []) ts in
    let whole = sum-closed depth labels ((sum_tokens s ++ (mark 41 ∷ [])) ++ ts) in
    record {
      worth-read = λ h.
          let a = r.worth-read (omega arith) in
          (a.0, (whole ∙ ap (λ (us : List Token). and_then (sum_within depth labels us) close_at) text ∙ ap (λ (y : Read). and_then y close_at) (a.1.0 ∙ rest-stop (term_of depth labels) (length (mark 41 ∷ ts)) a.0 (mark 41 ∷ ts) refl), a.1.1.0));
      too-deep = λ h. whole ∙ ap (λ (us : List Token). and_then (sum_within depth labels us) close_at) text ∙ ap (λ (y : Read). and_then y close_at) (r.too-deep (omega arith));
    }

mutual
  unfolding term_tokens term_depth term_added term_taken term_known

  pub sum-read : (s : Sum) (depth : ℕ) (labels : List Label) (ts : List Token) → SumRead depth labels s ts
  sum-read (only minus t) depth labels ts = only-read minus t depth labels ts (term-read t depth labels ts)
  sum-read (more s minus t) depth labels ts = more-read s minus t depth labels ts (λ us. sum-read s depth labels us) (term-read t depth labels ts)

  pub term-read : (t : Term) (depth : ℕ) (labels : List Label) (ts : List Token) → TermRead depth labels t ts
  term-read (constant r v d e) depth labels ts =
      record { worth-read = λ h. (worth v true, (constant-read r v d e depth labels ts, record { value = ap (λ (x : ℕ). x % 65536) (add-zero v); told = refl })); too-deep = λ h. absurd (omega arith) }
  term-read (name r d e) depth labels ts =
      record { worth-read = λ h. (label_worth labels r, (name-read r d e depth labels ts, record { value = ap (λ (x : ℕ). x % 65536) (add-zero (label_worth labels r).value); told = refl })); too-deep = λ h. absurd (omega arith) }
  term-read (inside s) depth labels ts = inside-read s depth labels ts (λ d. sum-read s d labels (mark 41 ∷ ts))
