-- A whole text: what is said depends on the tokens alone; labels are few and no two alike; a refusal stores nothing and names the first line that has a number.
-- Assumes nothing.
use mathlib.Core.Path.{◌≡◌, refl, ap, ◌∙◌}
use mathlib.Core.Bool.{Bool, true, false, false≢true}
use mathlib.Core.List.{List, [], ◌∷◌, ◌++◌}
use mathlib.Core.Logic.{◌⊎◌, inl, inr}
use Prim.Native.Nat.{ℕ, suc, ◌+◌, ◌%◌, ◌≤◌}
use native.Mathlib.Omega.{arith}
use lib.Dec.{eqb}
use lib.ListN.{length, length-append}
use borrow.Author.Tests.{eqb-false}
use Rattle.ground_rules.specs.Choice.{pick}
use Rattle.listing_rules.specs.Characters.{same_text}
use Rattle.assembly_rules.specs.declared.Worth.{Worth}
use Rattle.assembly_rules.specs.Text.{tokens_of}
use Rattle.assembly_rules.specs.Sums.{Label, label, label_worth, worth}
use Rattle.assembly_rules.specs.Statements.{statement_size, statement_bytes}
use Rattle.assembly_rules.specs.Assembly.{Said, said_by, said_in, may_keep, kept_with, labels_from, line_number, Assembled, assembled, assembled_from}
use Rattle.assembly_rules.proofs.TestLaws.{fails, not-both}
use Rattle.assembly_rules.proofs.LabelLaws.{may-parts}

-- lines with the same tokens, one by one
pub data SameTokens : List (List ℕ) → List (List ℕ) → Type 0 where
  no_line : SameTokens [] []
  one_more : {a b : List ℕ} {xs ys : List (List ℕ)} → tokens_of a ≡ tokens_of b → SameTokens xs ys → SameTokens (a ∷ xs) (b ∷ ys)

said_same : (a b : List ℕ) → tokens_of a ≡ tokens_of b → said_by a ≡ said_by b
unfolding said_by
said_same a b e = rw e

-- they say the same, in whatever letters and with whatever blanks and comments
pub same-said : {xs ys : List (List ℕ)} → SameTokens xs ys → said_in xs ≡ said_in ys
unfolding said_in
same-said no_line = refl
same-said (one_more {a = a} {b = b} {xs = xs} {ys = ys} e later) = ap (λ (s : Said). s ∷ said_in xs) (said_same a b e) ∙ ap (λ (l : List Said). said_by b ∷ l) (same-said later)

-- no two labels have one name
pub kept-once : (kept : List Label) (name : List ℕ) → (label_worth kept name).known ≡ true → may_keep kept name ≡ false
kept-once kept name h = fails (may_keep kept name) (λ m. not-both h (may-parts kept name m).1.0)

-- the 65th label is not kept
pub no_more : (kept : List Label) (name : List ℕ) → length kept ≡ 64 → may_keep kept name ≡ false
no_more kept name e = fails (may_keep kept name) (λ m. absurd (omega (arith, (may-parts kept name m).1.1.1)))

kept-few : (kept : List Label) (address : ℕ) (name : List ℕ) → length kept ≤ 64 → length (kept_with kept address name) ≤ 64
unfolding kept_with
kept-few kept address [] h = h
kept-few kept address (c ∷ cs) h = go (may_keep kept (c ∷ cs)) refl
  where
    go : (b : Bool) → may_keep kept (c ∷ cs) ≡ b → length (pick b (kept ++ (label (c ∷ cs) address ∷ [])) kept) ≤ 64
    go true e = omega (arith, (may-parts kept (c ∷ cs) e).1.1.1, length-append kept (label (c ∷ cs) address ∷ []))
    go false e = h

-- at most 64 labels are kept of any text
pub labels-few : (said : List Said) (kept : List Label) (address : ℕ) → length kept ≤ 64 → length (labels_from kept address said) ≤ 64
unfolding labels_from
labels-few [] kept address h = h
labels-few (s ∷ more) kept address h = labels-few more (kept_with kept (address % 65536) s.name) (address + statement_size s.statement) (kept-few kept (address % 65536) s.name h)

-- what a name is worth stays when labels are kept behind it
worth-stays : (kept more : List Label) (name : List ℕ) → (label_worth kept name).known ≡ true → label_worth (kept ++ more) name ≡ label_worth kept name
unfolding label_worth
worth-stays [] more name h = absurd (false≢true h)
worth-stays (l ∷ kept) more name h = go (same_text l.name name) h (worth-stays kept more name)
  where
    go : (b : Bool) → (pick b (worth l.address true) (label_worth kept name)).known ≡ true → ((label_worth kept name).known ≡ true → label_worth (kept ++ more) name ≡ label_worth kept name) → pick b (worth l.address true) (label_worth (kept ++ more) name) ≡ pick b (worth l.address true) (label_worth kept name)
    go true k later = refl
    go false k later = later k

kept-stays : (kept : List Label) (address : ℕ) (new name : List ℕ) → (label_worth kept name).known ≡ true → label_worth (kept_with kept address new) name ≡ label_worth kept name
unfolding kept_with
kept-stays kept address [] name h = refl
kept-stays kept address (c ∷ cs) name h = go (may_keep kept (c ∷ cs))
  where
    go : (b : Bool) → label_worth (pick b (kept ++ (label (c ∷ cs) address ∷ [])) kept) name ≡ label_worth kept name
    go true = worth-stays kept (label (c ∷ cs) address ∷ []) name h
    go false = refl

-- the first line of a name stands: later lines change nothing of what it is worth
pub first-stands : (said : List Said) (kept : List Label) (address : ℕ) (name : List ℕ) → (label_worth kept name).known ≡ true → label_worth (labels_from kept address said) name ≡ label_worth kept name
unfolding labels_from
first-stands [] kept address name h = refl
first-stands (s ∷ more) kept address name h =
    let k = kept-stays kept (address % 65536) s.name name h in
    first-stands more (kept_with kept (address % 65536) s.name) (address + statement_size s.statement) name (ap (λ (w : Worth). w.known) k ∙ h) ∙ k

-- a text that is done has line 0, one that is refused stores nothing
pub done-or-refused : (labels kept : List Label) (first room line : ℕ) (done : List ℕ) (said : List Said) → let a = assembled_from labels kept first room line done said in ((a.number ≡ 0) × (a.line ≡ 0)) ⊎ ((a.number ≡ 0 → ⊥) × (a.bytes ≡ []))
unfolding assembled_from
done-or-refused labels kept first room line done [] = inl (refl, refl)
done-or-refused labels kept first room line done (s ∷ more) =
    go (eqb n 0) refl (done-or-refused labels (kept_with kept address s.name) first room (suc line) (done ++ statement_bytes labels address s.statement) more)
  where
    address : ℕ
    address = (first + length done) % 65536

    n : ℕ
    n = line_number labels kept address (length done) room s

    rest : Assembled
    rest = assembled_from labels (kept_with kept address s.name) first room (suc line) (done ++ statement_bytes labels address s.statement) more

    go : (b : Bool) → eqb n 0 ≡ b → ((rest.number ≡ 0) × (rest.line ≡ 0)) ⊎ ((rest.number ≡ 0 → ⊥) × (rest.bytes ≡ []))
        → (((pick b rest (assembled n line [])).number ≡ 0) × ((pick b rest (assembled n line [])).line ≡ 0)) ⊎ (((pick b rest (assembled n line [])).number ≡ 0 → ⊥) × ((pick b rest (assembled n line [])).bytes ≡ []))
    go true e later = later
    go false e later = inr (eqb-false n 0 e, refl)
