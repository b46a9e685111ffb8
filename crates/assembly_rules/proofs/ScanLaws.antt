-- Tokens are a sum exactly where they are those of a tree, and as deep as the tree is.
-- Assumes nothing.
use mathlib.Core.Path.{◌≡◌, refl, sym, ap, subst, ◌∙◌}
use mathlib.Core.Bool.{Bool, true, false, not, ◌&&◌, ◌||◌, false≢true}
use mathlib.Core.List.{List, [], ◌∷◌, ◌++◌, append_assoc, append-nil}
use mathlib.Core.Logic.{◌↔◌}
use Prim.Native.Nat.{ℕ, suc, ◌+◌, ◌-◌, ◌≤◌, ◌<◌}
use native.Mathlib.Omega.{arith}
use native.Mathlib.Nat.{zero-add, add-zero}
use lib.Dec.{eqb, leb}
use lib.ListN.{length, get_or}
use borrow.Author.Tests.{eqb-true, eq-eqb, ne_eqb, lt-ltb, leb-true, leb-false, le-leb}
use Rattle.ground_rules.specs.Choice.{pick}
use Rattle.std.specs.declared.option.Option.{Option}
use Rattle.std.specs.declared.option.Option.TheVariants.{None, Some}
use Rattle.assembly_rules.specs.declared.Role.{Role}
use Rattle.assembly_rules.specs.declared.Role.TheVariants.{Term, Plus, Minus, Opens, Closes, Other}
use Rattle.assembly_rules.specs.declared.Scan.{Scan}
use Rattle.assembly_rules.specs.declared.Worth.{Worth}
use Rattle.listing_rules.specs.Characters.{same_text}
use Rattle.listing_rules.proofs.SpellingLaws.{each}
use Rattle.assembly_rules.specs.Text.{Token, is_digit}
use Rattle.assembly_rules.specs.Text.Token.{run, mark}
use Rattle.assembly_rules.specs.Numbers.{constant_of}
use Rattle.assembly_rules.specs.Sums.{Label, index_in, registers_named, register_number, begins_digit, is_register, is_value, is_term, mark_role, role_of, greater, scan, scan_start, no_sum, scanned, scan_from, is_whole, is_sum, depth_of, term_of, sum_within, most_open}
use Rattle.assembly_rules.specs.Sums.Read.{read, deep}
use Rattle.assembly_rules.specs.Trees as Trees
use Rattle.assembly_rules.specs.Trees.{Sum, sum_tokens, term_tokens, sum_depth, term_depth, sum_added, sum_taken, sum_known}
use Rattle.assembly_rules.specs.Trees.Sum.{only, more}
use Rattle.assembly_rules.specs.Trees.Term.{constant, name, inside}
use Rattle.assembly_rules.proofs.SumLaws.{rest-stop}
use Rattle.assembly_rules.proofs.TreeLaws.{Equals, sum-read}

-- the larger of two numbers
larger-left : (a b : ℕ) → b ≤ a → greater a b ≡ a
larger-left a b h = go (leb a b) refl
  where
    go : (t : Bool) → leb a b ≡ t → pick t b a ≡ a
    go true e = let l = leb-true a b e in omega arith
    go false e = refl

larger-right : (a b : ℕ) → a ≤ b → greater a b ≡ b
larger-right a b h = rw (le-leb a b h)

larger-over : (a b : ℕ) → b ≤ greater a b
larger-over a b = go (leb a b) refl
  where
    go : (t : Bool) → leb a b ≡ t → b ≤ pick t b a
    go true e = omega arith
    go false e = let l = leb-false a b e in omega arith

larger-under : (a b : ℕ) → a ≤ greater a b
larger-under a b = go (leb a b) refl
  where
    go : (t : Bool) → leb a b ≡ t → a ≤ pick t b a
    go true e = leb-true a b e
    go false e = omega arith

-- a number over the smaller of two that were joined leaves the larger out
larger-absorb : (m a b : ℕ) → a ≤ b → greater (greater m a) b ≡ greater m b
larger-absorb m a b h = go (leb m a) refl
  where
    go : (t : Bool) → leb m a ≡ t → greater (pick t a m) b ≡ greater m b
    go true e = let l = leb-true m a e in larger-right a b h ∙ sym (larger-right m b (omega arith))
    go false e = refl

larger-sum : (m o a b : ℕ) → greater (greater m (o + a)) (o + b) ≡ greater m (o + greater a b)
larger-sum m o a b = go (leb a b) refl
  where
    go : (t : Bool) → leb a b ≡ t → greater (greater m (o + a)) (o + b) ≡ greater m (o + pick t b a)
    go true e = let l = leb-true a b e in larger-absorb m (o + a) (o + b) (omega arith)
    go false e = let l = leb-false a b e in let k = larger-over m (o + a) in larger-left (greater m (o + a)) (o + b) (omega arith)

-- a run that is a term of a tree is one in the scan
constant-term : (r : List ℕ) (v : ℕ) → begins_digit r ≡ true → constant_of r ≡ Some v → is_term r ≡ true
unfolding is_term
constant-term r v d e = rw (d, e)

name-term : (r : List ℕ) → begins_digit r ≡ false → is_register r ≡ false → is_term r ≡ true
unfolding is_term
name-term r d e = rw (d, e)

leaf-scan : (r : List ℕ) (ts : List Token) (o m : ℕ) (b : Bool) → is_term r ≡ true → o ≤ m → scan_from (scan true o m true b) (run r ∷ ts) ≡ scan_from (scan true o (greater m (o + 0)) false false) ts
unfolding scan_from role_of scanned
leaf-scan r ts o m b h l = rw (h, add-zero o, larger-left m o l)

open-scan : (ts : List Token) (o m : ℕ) (b : Bool) → scan_from (scan true o m true b) (mark 40 ∷ ts) ≡ scan_from (scan true (o + 1) (greater m (o + 1)) true true) ts
unfolding scan_from role_of scanned
open-scan ts o m b = refl

close-scan : (ts : List Token) (o m : ℕ) → scan_from (scan true (o + 1) m false false) (mark 41 ∷ ts) ≡ scan_from (scan true o m false false) ts
unfolding scan_from role_of scanned
close-scan ts o m = let e : eqb (o + 1) 0 ≡ false = ne_eqb (o + 1) 0 (λ z. omega arith) in let f : o + 1 - 1 ≡ o = omega arith in rw (e, f)

sign-scan : (minus : Bool) (ts : List Token) (o m : ℕ) → scan_from (scan true o m false false) (mark (pick minus 45 43) ∷ ts) ≡ scan_from (scan true o m true false) ts
unfolding scan_from role_of scanned
sign-scan true ts o m = refl
sign-scan false ts o m = refl

-- a term or a sum scanned from where it is due
TermScanned : Trees.Term → Type 0
TermScanned t = (ts : List Token) (o m : ℕ) (b : Bool) → o ≤ m → scan_from (scan true o m true b) (term_tokens t ++ ts) ≡ scan_from (scan true o (greater m (o + term_depth t)) false false) ts

SumScanned : Sum → Type 0
SumScanned s = (ts : List Token) (o m : ℕ) → o ≤ m → scan_from (scan true o m true true) (sum_tokens s ++ ts) ≡ scan_from (scan true o (greater m (o + sum_depth s)) false false) ts

inside-scan : (s : Sum) → SumScanned s → TermScanned (inside s)
unfolding TermScanned SumScanned term_tokens term_depth
inside-scan s h ts o m b l =
    let text : (sum_tokens s ++ (mark 41 ∷ [])) ++ ts ≡ sum_tokens s ++ (mark 41 ∷ ts) = append_assoc (sum_tokens s) (mark 41 ∷ []) ts in
    let d = sum_depth s in
    let sum : o + 1 + d ≡ o + suc d = omega arith in
    open-scan ((sum_tokens s ++ (mark 41 ∷ [])) ++ ts) o m b
    ∙ ap (scan_from (scan true (o + 1) (greater m (o + 1)) true true)) text
    ∙ h (mark 41 ∷ ts) (o + 1) (greater m (o + 1)) (larger-over m (o + 1))
    ∙ close-scan ts o (greater (greater m (o + 1)) (o + 1 + d))
    ∙ ap (λ (x : ℕ). scan_from (scan true o x false false) ts) (larger-absorb m (o + 1) (o + 1 + d) (omega arith) ∙ ap (greater m) sum)

minus-scan : (ts : List Token) (o m : ℕ) → scan_from (scan true o m true true) (mark 45 ∷ ts) ≡ scan_from (scan true o m true false) ts
unfolding scan_from role_of scanned
minus-scan ts o m = refl

only-scan : (minus : Bool) (t : Trees.Term) → TermScanned t → SumScanned (only minus t)
unfolding TermScanned SumScanned sum_tokens sum_depth
only-scan true t h ts o m l = minus-scan (term_tokens t ++ ts) o m ∙ h ts o m false l
only-scan false t h ts o m l = h ts o m true l

more-scan : (s : Sum) (minus : Bool) (t : Trees.Term) → SumScanned s → TermScanned t → SumScanned (more s minus t)
unfolding TermScanned SumScanned sum_tokens sum_depth
more-scan s minus t h k ts o m l =
    let sign : ℕ = pick minus 45 43 in
    let m1 = greater m (o + sum_depth s) in
    let text : (sum_tokens s ++ (mark sign ∷ term_tokens t)) ++ ts ≡ sum_tokens s ++ (mark sign ∷ (term_tokens t ++ ts)) = append_assoc (sum_tokens s) (mark sign ∷ term_tokens t) ts in
    ap (scan_from (scan true o m true true)) text
    ∙ h (mark sign ∷ (term_tokens t ++ ts)) o m l
    ∙ sign-scan minus (term_tokens t ++ ts) o m1
    ∙ k ts o m1 false (omega (arith, larger-under m (o + sum_depth s)))
    ∙ ap (λ (x : ℕ). scan_from (scan true o x false false) ts) (larger-sum m o (sum_depth s) (term_depth t))

mutual
  unfolding TermScanned SumScanned term_tokens term_depth

  sum-scan : (s : Sum) → SumScanned s
  sum-scan (only minus t) = only-scan minus t (term-scan t)
  sum-scan (more s minus t) = more-scan s minus t (sum-scan s) (term-scan t)

  term-scan : (t : Trees.Term) → TermScanned t
  term-scan (constant r v d e) = λ ts o m b l. leaf-scan r ts o m b (constant-term r v d e) l
  term-scan (name r d e) = λ ts o m b l. leaf-scan r ts o m b (name-term r d e) l
  term-scan (inside s) = inside-scan s (sum-scan s)

nothing-more : (d : ℕ) → scan_from (scan true 0 (greater 0 (0 + d)) false false) [] ≡ scan true 0 d false false
unfolding scan_from
nothing-more d = ap (λ (x : ℕ). scan true 0 x false false) (larger-right 0 (0 + d) (omega arith) ∙ zero-add d)

-- the tokens of a tree are a sum, as deep as the tree
pub tree-scan : (s : Sum) → scan_from scan_start (sum_tokens s) ≡ scan true 0 (sum_depth s) false false
unfolding SumScanned
tree-scan s = sym (ap (scan_from scan_start) (append-nil (sum_tokens s))) ∙ sum-scan s [] 0 0 (omega arith) ∙ nothing-more (sum_depth s)

pub tree-sum : (s : Sum) → is_sum (sum_tokens s) ≡ true
unfolding is_sum
tree-sum s = rw (tree-scan s)

pub tree-depth : (s : Sum) → depth_of (sum_tokens s) ≡ sum_depth s
unfolding depth_of
tree-depth s = ap (λ (x : Scan). x.most) (tree-scan s)

-- what stands before a term: nothing or a minus, or a sum and a sign
data Frame : Type 0 where
  lead : Bool → Frame
  behind : Sum → Bool → Frame

frame_tokens : Frame → List Token
frame_tokens (lead minus) = pick minus (mark 45 ∷ []) []
frame_tokens (behind s minus) = sum_tokens s ++ (mark (pick minus 45 43) ∷ [])

-- frames with a parenthesis open behind each, the innermost first
frames_tokens : List Frame → List Token
frames_tokens [] = []
frames_tokens (f ∷ fs) = frames_tokens fs ++ (frame_tokens f ++ (mark 40 ∷ []))

-- a term in its place
filled_frame : Frame → Trees.Term → Sum
filled_frame (lead minus) t = only minus t
filled_frame (behind s minus) t = more s minus t

filled-tokens : (f : Frame) (t : Trees.Term) → sum_tokens (filled_frame f t) ≡ frame_tokens f ++ term_tokens t
unfolding filled_frame frame_tokens sum_tokens
filled-tokens (lead minus) t = refl
filled-tokens (behind s minus) t = sym (append_assoc (sum_tokens s) (mark (pick minus 45 43) ∷ []) (term_tokens t))

-- a tree whose tokens these are
abbrev Found : List Token → Type 0
Found ts = (s : Sum) × (sum_tokens s ≡ ts)

either-bad : (b : Bool) (x y : Scan) → x.good ≡ false → y.good ≡ false → (pick b x y).good ≡ false
either-bad true x y h k = h
either-bad false x y h k = k

bad-scanned : (s : Scan) (p : Role) → s.good ≡ false → (scanned s p).good ≡ false
unfolding scanned
bad-scanned s Term h = either-bad s.due _ _ h refl
bad-scanned s Plus h = either-bad s.due _ _ refl h
bad-scanned s Minus h = either-bad (s.due && s.begins) _ _ h (either-bad s.due _ _ refl h)
bad-scanned s Opens h = either-bad s.due _ _ h refl
bad-scanned s Closes h = either-bad (s.due || eqb s.opened 0) _ _ refl h
bad-scanned s Other h = refl

-- a scan that is no sum stays none
bad-stays : (ts : List Token) (s : Scan) → s.good ≡ false → is_whole (scan_from s ts) ≡ false
unfolding scan_from
bad-stays [] s h = rw h
bad-stays (t ∷ ts) s h = bad-stays ts (scanned s (role_of t)) (bad-scanned s (role_of t) h)

no_whole : {A : Type 0} (ts : List Token) (s : Scan) → s.good ≡ false → is_whole (scan_from s ts) ≡ true → A
no_whole ts s h k = absurd (false≢true (sym (bad-stays ts s h) ∙ k))

-- a run that is a term, as a term of a tree
leaf_of : (r : List ℕ) → is_term r ≡ true → (t : Trees.Term) × (term_tokens t ≡ run r ∷ [])
unfolding is_term term_tokens
leaf_of r h = go (begins_digit r) refl (constant_of r) refl (is_register r) refl h
  where
    go : (d : Bool) → begins_digit r ≡ d → (k : Option ℕ) → constant_of r ≡ k → (g : Bool) → is_register r ≡ g → pick d (is_value k) (not g) ≡ true → (t : Trees.Term) × (term_tokens t ≡ run r ∷ [])
    go true p (Some v) q g s t = (constant r v p q, refl)
    go true p None q g s t = absurd (false≢true t)
    go false p k q true s t = absurd (false≢true t)
    go false p k q false s t = (name r p s, refl)

-- what a scan that ends well says of the tokens before it: a term is due behind some frames and one more, or a sum stands behind some frames
DueTree : List Token → Type 0
DueTree ts =
    (fs : List Frame) (f : Frame) (m : ℕ) (b : Bool) → (b ≡ true → f ≡ lead false) → is_whole (scan_from (scan true (length fs) m true b) ts) ≡ true
    → Found (frames_tokens fs ++ (frame_tokens f ++ ts))

DoneTree : List Token → Type 0
DoneTree ts = (fs : List Frame) (s : Sum) (m : ℕ) → is_whole (scan_from (scan true (length fs) m false false) ts) ≡ true → Found (frames_tokens fs ++ (sum_tokens s ++ ts))

next-part : (s : Scan) (t : Token) (p : Role) (ts : List Token) → role_of t ≡ p → is_whole (scan_from s (t ∷ ts)) ≡ true → is_whole (scan_from (scanned s p) ts) ≡ true
unfolding scan_from
next-part s t p ts e h = subst (λ (x : Role). is_whole (scan_from (scanned s x) ts) ≡ true) e h

found-same : (a b : List Token) → a ≡ b → Found a → Found b
found-same a b e x = subst Found e x

leaf-text : (fs : List Frame) (f : Frame) (t : Trees.Term) (us ts : List Token) → term_tokens t ≡ us → frames_tokens fs ++ (sum_tokens (filled_frame f t) ++ ts) ≡ frames_tokens fs ++ (frame_tokens f ++ (us ++ ts))
leaf-text fs f t us ts e = ap (λ (x : List Token). frames_tokens fs ++ x) (ap (λ (x : List Token). x ++ ts) (filled-tokens f t) ∙ append_assoc (frame_tokens f) (term_tokens t) ts ∙ ap (λ (x : List Token). frame_tokens f ++ (x ++ ts)) e)

push-text : (fs : List Frame) (f : Frame) (ts : List Token) → frames_tokens (f ∷ fs) ++ (frame_tokens (lead false) ++ ts) ≡ frames_tokens fs ++ (frame_tokens f ++ (mark 40 ∷ ts))
unfolding frames_tokens frame_tokens
push-text fs f ts = append_assoc (frames_tokens fs) (frame_tokens f ++ (mark 40 ∷ [])) ts ∙ ap (λ (x : List Token). frames_tokens fs ++ x) (append_assoc (frame_tokens f) (mark 40 ∷ []) ts)

pop-text : (fs : List Frame) (f : Frame) (s : Sum) (ts : List Token) → frames_tokens fs ++ (sum_tokens (filled_frame f (inside s)) ++ ts) ≡ frames_tokens (f ∷ fs) ++ (sum_tokens s ++ (mark 41 ∷ ts))
unfolding frames_tokens term_tokens
pop-text fs f s ts =
    leaf-text fs f (inside s) (mark 40 ∷ (sum_tokens s ++ (mark 41 ∷ []))) ts refl
    ∙ ap (λ (x : List Token). frames_tokens fs ++ (frame_tokens f ++ (mark 40 ∷ x))) (append_assoc (sum_tokens s) (mark 41 ∷ []) ts)
    ∙ sym (append_assoc (frames_tokens fs) (frame_tokens f ++ (mark 40 ∷ [])) (sum_tokens s ++ (mark 41 ∷ ts)) ∙ ap (λ (x : List Token). frames_tokens fs ++ x) (append_assoc (frame_tokens f) (mark 40 ∷ []) (sum_tokens s ++ (mark 41 ∷ ts))))

sign_text : (fs : List Frame) (s : Sum) (minus : Bool) (ts : List Token) → frames_tokens fs ++ (frame_tokens (behind s minus) ++ ts) ≡ frames_tokens fs ++ (sum_tokens s ++ (mark (pick minus 45 43) ∷ ts))
unfolding frame_tokens
sign_text fs s minus ts = ap (λ (x : List Token). frames_tokens fs ++ x) (append_assoc (sum_tokens s) (mark (pick minus 45 43) ∷ []) ts)

-- a mark by what it is in a sum
data MarkIs (c : ℕ) : Role → Type 0 where
  plus : c ≡ 43 → MarkIs c Plus
  minus : c ≡ 45 → MarkIs c Minus
  opens : c ≡ 40 → MarkIs c Opens
  closes : c ≡ 41 → MarkIs c Closes
  other : MarkIs c Other

mark-is : (c : ℕ) → MarkIs c (mark_role c)
mark-is c = go (eqb c 43) refl (eqb c 45) refl (eqb c 40) refl (eqb c 41) refl
  where
    go : (x : Bool) → eqb c 43 ≡ x → (y : Bool) → eqb c 45 ≡ y → (z : Bool) → eqb c 40 ≡ z → (w : Bool) → eqb c 41 ≡ w → MarkIs c (pick x Plus (pick y Minus (pick z Opens (pick w Closes Other))))
    go true p y q z r w s = plus (eqb-true c 43 p)
    go false p true q z r w s = minus (eqb-true c 45 q)
    go false p false q true r w s = opens (eqb-true c 40 r)
    go false p false q false r true s = closes (eqb-true c 41 s)
    go false p false q false r false s = other

due-mark : (c : ℕ) (p : Role) → MarkIs c p → (ts : List Token) → DueTree ts → (fs : List Frame) (f : Frame) (m : ℕ) (b : Bool) → (b ≡ true → f ≡ lead false)
    → is_whole (scan_from (scanned (scan true (length fs) m true b) p) ts) ≡ true → Found (frames_tokens fs ++ (frame_tokens f ++ (mark c ∷ ts)))
unfolding scanned DueTree frame_tokens
due-mark c Plus (plus e) ts due fs f m b k h = no_whole ts (no_sum (scan true (length fs) m true b)) refl h
due-mark c Minus (minus e) ts due fs f m true k h =
    found-same (frames_tokens fs ++ (frame_tokens (lead true) ++ ts)) (frames_tokens fs ++ (frame_tokens f ++ (mark c ∷ ts))) (rw (e, k refl) minus-text) (due fs (lead true) m false (λ z. absurd (false≢true z)) h)
  where
    minus-text : frames_tokens fs ++ (frame_tokens (lead true) ++ ts) ≡ frames_tokens fs ++ (frame_tokens (lead false) ++ (mark 45 ∷ ts))
    minus-text = refl
due-mark c Minus (minus e) ts due fs f m false k h = no_whole ts (no_sum (scan true (length fs) m true false)) refl h
due-mark c Opens (opens e) ts due fs f m b k h =
    let up : length fs + 1 ≡ length (f ∷ fs) = omega arith in
    rw e (found-same _ _ (push-text fs f ts) (due (f ∷ fs) (lead false) (greater m (length fs + 1)) true (λ z. refl) (subst (λ (n : ℕ). is_whole (scan_from (scan true n (greater m (length fs + 1)) true true) ts) ≡ true) up h)))
due-mark c Closes (closes e) ts due fs f m b k h = no_whole ts (no_sum (scan true (length fs) m true b)) refl h
due-mark c Term x ts due fs f m b k h = elim x [ ]
due-mark c Other other ts due fs f m b k h = no_whole ts (no_sum (scan true (length fs) m true b)) refl h

due-run : (r : List ℕ) (ts : List Token) → DoneTree ts → (fs : List Frame) (f : Frame) (m : ℕ) (b : Bool) → is_whole (scan_from (scan true (length fs) m true b) (run r ∷ ts)) ≡ true → Found (frames_tokens fs ++ (frame_tokens f ++ (run r ∷ ts)))
unfolding DoneTree role_of scanned
due-run r ts done fs f m b h = go (is_term r) refl
  where
    part : (x : Bool) → is_term r ≡ x → role_of (run r) ≡ pick x Term Other
    part x e = rw e

    go : (x : Bool) → is_term r ≡ x → Found (frames_tokens fs ++ (frame_tokens f ++ (run r ∷ ts)))
    go true e =
        let t = leaf_of r e in
        found-same _ _ (leaf-text fs f t.0 (run r ∷ []) ts t.1) (done fs (filled_frame f t.0) m (next-part (scan true (length fs) m true b) (run r) Term ts (part true e) h))
    go false e = no_whole ts (no_sum (scan true (length fs) m true b)) refl (next-part (scan true (length fs) m true b) (run r) Other ts (part false e) h)

done-mark : (c : ℕ) (p : Role) → MarkIs c p → (ts : List Token) → DueTree ts → DoneTree ts → (fs : List Frame) (s : Sum) (m : ℕ)
    → is_whole (scan_from (scanned (scan true (length fs) m false false) p) ts) ≡ true → Found (frames_tokens fs ++ (sum_tokens s ++ (mark c ∷ ts)))
unfolding scanned DueTree DoneTree
done-mark c Plus (plus e) ts due done fs s m h = rw e (found-same _ _ (sign_text fs s false ts) (due fs (behind s false) m false (λ z. absurd (false≢true z)) h))
done-mark c Minus (minus e) ts due done fs s m h = rw e (found-same _ _ (sign_text fs s true ts) (due fs (behind s true) m false (λ z. absurd (false≢true z)) h))
done-mark c Opens (opens e) ts due done fs s m h = no_whole ts (no_sum (scan true (length fs) m false false)) refl h
done-mark c Closes (closes e) ts due done [] s m h = no_whole ts (no_sum (scan true 0 m false false)) refl h
done-mark c Closes (closes e) ts due done (f ∷ fs) s m h =
    let n : eqb (length (f ∷ fs)) 0 ≡ false = ne_eqb (length (f ∷ fs)) 0 (λ z. omega arith) in
    let d : length (f ∷ fs) - 1 ≡ length fs = omega arith in
    let k : is_whole (scan_from (scan true (length fs) m false false) ts) ≡ true = rw (n, d) at h in
    rw e (found-same _ _ (pop-text fs f s ts) (done fs (filled_frame f (inside s)) m k))
done-mark c Term x ts due done fs s m h = elim x [ ]
done-mark c Other other ts due done fs s m h = no_whole ts (no_sum (scan true (length fs) m false false)) refl h

done-run : (r : List ℕ) (ts : List Token) (fs : List Frame) (s : Sum) (m : ℕ) → is_whole (scan_from (scan true (length fs) m false false) (run r ∷ ts)) ≡ true → Found (frames_tokens fs ++ (sum_tokens s ++ (run r ∷ ts)))
unfolding role_of scanned
done-run r ts fs s m h = go (is_term r) refl
  where
    part : (x : Bool) → is_term r ≡ x → role_of (run r) ≡ pick x Term Other
    part x e = rw e

    go : (x : Bool) → is_term r ≡ x → Found (frames_tokens fs ++ (sum_tokens s ++ (run r ∷ ts)))
    go true e = no_whole ts (no_sum (scan true (length fs) m false false)) refl (next-part (scan true (length fs) m false false) (run r) Term ts (part true e) h)
    go false e = no_whole ts (no_sum (scan true (length fs) m false false)) refl (next-part (scan true (length fs) m false false) (run r) Other ts (part false e) h)

none_left : DueTree []
unfolding DueTree scan_from
none_left fs f m b k h = absurd (false≢true h)

all_closed : DoneTree []
unfolding DoneTree scan_from frames_tokens
all_closed [] s m h = (s, sym (append-nil (sum_tokens s)))
all_closed (f ∷ fs) s m h = let z : length (f ∷ fs) ≡ 0 = eqb-true (length (f ∷ fs)) 0 h in absurd (omega arith)

mark-part : (c : ℕ) → role_of (mark c) ≡ mark_role c
unfolding role_of
mark-part c = refl

trees : (ts : List Token) → DueTree ts × DoneTree ts
unfolding DueTree DoneTree
trees [] = (none_left, all_closed)
trees (run r ∷ ts) = let later = trees ts in (λ fs f m b k h. due-run r ts later.1 fs f m b h, λ fs s m h. done-run r ts fs s m h)
trees (mark c ∷ ts) =
    let later = trees ts in (
      λ fs f m b k h. due-mark c (mark_role c) (mark-is c) ts later.0 fs f m b k (next-part (scan true (length fs) m true b) (mark c) (mark_role c) ts (mark-part c) h),
      λ fs s m h. done-mark c (mark_role c) (mark-is c) ts later.0 later.1 fs s m (next-part (scan true (length fs) m false false) (mark c) (mark_role c) ts (mark-part c) h),
    )

tree_of : (ts : List Token) → is_sum ts ≡ true → (s : Sum) × (sum_tokens s ≡ ts)
unfolding is_sum DueTree frames_tokens frame_tokens
tree_of ts h = (trees ts).0 [] (lead false) 0 true (λ z. refl) h

-- tokens are a sum exactly where they are those of some tree
pub sum-exactly : (ts : List Token) → (is_sum ts ≡ true) ↔ ((s : Sum) × (sum_tokens s ≡ ts))
sum-exactly ts = (λ h. tree_of ts h, λ x. sym (ap is_sum x.1) ∙ tree-sum x.0)

-- a sum read under some labels: to its last token, and worth its tree's value
pub record Understood (labels : List Label) (ts : List Token) : Type 0 where
  pub tree : Sum
  pub tokens : sum_tokens tree ≡ ts
  pub depth : depth_of ts ≡ sum_depth tree
  pub deeper : most_open < depth_of ts → sum_within most_open labels ts ≡ deep
  pub read-so : depth_of ts ≤ most_open → (w : Worth) × ((sum_within most_open labels ts ≡ read w []) × (Equals w (sum_added labels tree) (sum_taken labels tree) (sum_known labels tree) × (w.value < 65536)))

-- so a sum of the right form is read as its tree says, too deep exactly where more than eight parentheses are open at once
pub understood : (labels : List Label) (ts : List Token) → is_sum ts ≡ true → Understood labels ts
understood labels ts h =
    let t = (sum-exactly ts).0 h in
    let s = t.0 in
    let e = t.1 in
    let d : depth_of ts ≡ sum_depth s = sym (ap depth_of e) ∙ tree-depth s in
    let r = sum-read s most_open labels [] in
    let text : sum_tokens s ++ [] ≡ ts = append-nil (sum_tokens s) ∙ e in
    record {
      tree = s;
      tokens = e;
      depth = d;
      deeper = λ k. sym (ap (sum_within most_open labels) text) ∙ r.too-deep (rw d at k);
      read-so = λ k. let a = r.worth-read (rw d at k) in (a.0, (sym (ap (sum_within most_open labels) text) ∙ a.1.0 ∙ rest-stop (term_of most_open labels) 0 a.0 [] refl, a.1.1));
    }

-- texts that are the same, in both directions
pub same-is : (a b : List ℕ) → same_text a b ≡ true → a ≡ b
unfolding same_text
same-is [] [] h = refl
same-is [] (d ∷ b) h = absurd (false≢true h)
same-is (c ∷ a) [] h = absurd (false≢true h)
same-is (c ∷ a) (d ∷ b) h = go (eqb c d) refl h (same-is a b)
  where
    go : (t : Bool) → eqb c d ≡ t → t && same_text a b ≡ true → (same_text a b ≡ true → a ≡ b) → c ∷ a ≡ d ∷ b
    go true e k later = rw (eqb-true c d e, later k)
    go false e k later = absurd (false≢true k)

pub is_same : (a : List ℕ) → same_text a a ≡ true
unfolding same_text
is_same [] = refl
is_same (c ∷ a) = rw (eq-eqb c c refl, is_same a)

-- whether a test fails for each of a list
unfoldable pub all_fail : {A : Type 0} → (A → Bool) → List A → Bool
all_fail test [] = true
all_fail test (this ∷ rest) = not (test this) && all_fail test rest

-- a text that stands in a list is the one at its place
pub index-named : (names : List (List ℕ)) (text : List ℕ) → index_in names text < length names → text ≡ get_or names (index_in names text) []
unfolding index_in
index-named [] text h = absurd (omega arith)
index-named (this ∷ names) text h = go (same_text this text) refl h (index-named names text)
  where
    go : (b : Bool) → same_text this text ≡ b → pick b 0 (suc (index_in names text)) < length (this ∷ names) → (index_in names text < length names → text ≡ get_or names (index_in names text) []) → text ≡ get_or (this ∷ names) (pick b 0 (suc (index_in names text))) []
    go true e k later = sym (same-is this text e)
    go false e k later = later (omega arith)

-- a register is no term: its name begins with no digit
no_digit : (r : List ℕ) → register_number r < 9 → begins_digit r ≡ false
unfolding register_number is_digit
no_digit r h = ap begins_digit (index-named registers_named r h) ∙ each 9 (λ n. begins_digit (get_or registers_named n []) ≡ false) ((((((((((tt, refl), refl), refl), refl), refl), refl), refl), refl), refl)) (register_number r) h

no-term : (r : List ℕ) → register_number r < 9 → is_term r ≡ false
unfolding is_term
no-term r h = rw (no_digit r h, lt-ltb (register_number r) 9 h)

other-part : (r : List ℕ) → is_term r ≡ false → role_of (run r) ≡ Other
unfolding role_of
other-part r h = rw h

pub bad-first : (t : Token) (ts : List Token) → role_of t ≡ Other → is_whole (scan_from scan_start (t ∷ ts)) ≡ false
unfolding scan_from scanned
bad-first t ts h = ap (λ (p : Role). is_whole (scan_from (scanned scan_start p) ts)) h ∙ bad-stays ts (no_sum scan_start) refl

pub no-register-sum : (r : List ℕ) (ts : List Token) → register_number r < 9 → is_sum (run r ∷ ts) ≡ false
unfolding is_sum
no-register-sum r ts h = bad-first (run r) ts (other-part r (no-term r h))
