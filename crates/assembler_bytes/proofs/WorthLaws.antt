-- A sum is worth the same whether a comma and more follow it or not.
-- Assumes nothing.
use mathlib.Core.Path.{◌≡◌, refl, sym, ap, ◌∙◌}
use mathlib.Core.Bool.{Bool, true, false}
use mathlib.Core.List.{List, [], ◌∷◌, ◌++◌}
use Prim.Native.Nat.{ℕ, ◌+◌, ◌%◌, ◌<◌}
use native.Mathlib.Omega.{arith}
use lib.Dec.{eqb, leb}
use lib.ListN.{length}
use borrow.Author.Tests.{eqb-true, leb-true}
use Rattle.ground_rules.specs.Choice.{pick}
use Rattle.assembly_rules.specs.declared.Worth.{Worth}
use Rattle.assembly_rules.specs.Text.{Token, is_comma, before_comma, from_comma}
use Rattle.assembly_rules.specs.Text.Token.{run, mark}
use Rattle.assembly_rules.specs.Sums.{Label, worth, begins_sign, is_sum, depth_of, most_open, term_of, sum_within, sum_worth}
use Rattle.assembly_rules.proofs.SumLaws.{rest-stop}
use Rattle.assembly_rules.proofs.TreeLaws.{Equals, sum-read}
use Rattle.assembly_rules.proofs.ScanLaws.{understood}
use Rattle.assembler_text.proofs.ReadLaws.{worth-read}

comma-split : (ts : List Token) → before_comma ts ++ from_comma ts ≡ ts
unfolding before_comma from_comma
comma-split [] = refl
comma-split (t ∷ ts) = go (is_comma t) (comma-split ts)
  where
    go : (b : Bool) → before_comma ts ++ from_comma ts ≡ ts → pick b [] (t ∷ before_comma ts) ++ pick b (t ∷ ts) (from_comma ts) ≡ t ∷ ts
    go true e = refl
    go false e = ap (λ (us : List Token). t ∷ us) e

comma-no-sign : (ts : List Token) → begins_sign (from_comma ts) ≡ false
unfolding from_comma
comma-no-sign [] = refl
comma-no-sign (run r ∷ ts) = comma-no-sign ts
comma-no-sign (mark c ∷ ts) = go (eqb c 44) refl (comma-no-sign ts)
  where
    go : (b : Bool) → eqb c 44 ≡ b → begins_sign (from_comma ts) ≡ false → begins_sign (pick b (mark c ∷ ts) (from_comma ts)) ≡ false
    go true e h = rw (eqb-true c 44 e)
    go false e h = h

-- two worths of one tree are the same
same-worth : (w v : Worth) (added taken : ℕ) (k : Bool) → Equals w added taken k → Equals v added taken k → w.value < 65536 → v.value < 65536 → w ≡ v
same-worth w v added taken k e f l m = parts w.value v.value w.known v.known (e.value ∙ sym f.value) l m (e.told ∙ sym f.told)
  where
    parts : (a b : ℕ) (x y : Bool) → (a + taken) % 65536 ≡ (b + taken) % 65536 → a < 65536 → b < 65536 → x ≡ y → worth a x ≡ worth b y
    parts a b x y h l m p = let z : a ≡ b = omega arith in cc

-- what a sum is worth up to a comma is what it is worth with the rest of the line behind it
pub worth-before : (labels : List Label) (ts : List Token) → is_sum (before_comma ts) ≡ true → leb (depth_of (before_comma ts)) 8 ≡ true → sum_worth labels ts ≡ sum_worth labels (before_comma ts)
worth-before labels ts h d =
    let u = understood labels (before_comma ts) h in
    let rest = from_comma ts in
    let k = leb-true (depth_of (before_comma ts)) 8 d in
    let a = u.read-so k in
    let b = (sum-read u.tree most_open labels rest).worth-read (rw u.depth at k) in
    let whole = ap (λ (us : List Token). sum_within most_open labels (us ++ rest)) u.tokens ∙ ap (sum_within most_open labels) (comma-split ts) in
    worth-read labels ts b.0 rest (sym whole ∙ b.1.0 ∙ rest-stop (term_of most_open labels) (length rest) b.0 rest (comma-no-sign ts))
    ∙ same-worth b.0 a.0 _ _ _ b.1.1.0 a.1.1.0 b.1.1.1 a.1.1.1
    ∙ sym (worth-read labels (before_comma ts) a.0 [] a.1.0)
