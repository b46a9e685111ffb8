-- What a tree is worth under some labels, which of its names are unknown, and which values stand in which place.
-- Assumes nothing.
use mathlib.Core.Path.{◌≡◌, refl, sym, ap, ◌∙◌}
use mathlib.Core.Bool.{Bool, true, false, ◌&&◌}
use mathlib.Core.List.{List, [], ◌∷◌, ◌++◌, append-nil}
use mathlib.Core.Logic.{◌⊎◌, inl, inr, ◌↔◌}
use Prim.Native.Nat.{ℕ, ◌+◌, ◌-◌, ◌%◌, ◌≤◌, ◌<◌}
use native.Mathlib.Omega.{arith}
use native.Mathlib.Nat.{mod-lt}
use lib.Dec.{eqb, ltb, leb, lit<}
use borrow.Author.Tests.{ltb-true, leb-true, eqb-true, lt-ltb, le-leb, eq-eqb}
use Rattle.listing_rules.specs.Entries.{OperandKind}
use Rattle.listing_rules.specs.Entries.OperandKind.{'R, 'G, 'P, 'M, 'byte, 'word, 'bit, 'width, 'short, 'long}
use Rattle.assembly_rules.specs.Sums.{Label, label_worth, worth, worth_in, term_of, sum_within, most_open, sum_worth}
use Rattle.assembly_rules.specs.Trees.{Sum, Term, sum_tokens, sum_depth, sum_added, sum_taken, sum_known, term_known}
use Rattle.assembly_rules.specs.Trees.Sum.{only, more}
use Rattle.assembly_rules.specs.Trees.Term.{constant, name, inside}
use Rattle.assembly_rules.specs.Statements.{is_byte, reach_to, is_near, may_stand}
use Rattle.assembly_rules.proofs.SumLaws.{rest-stop}
use Rattle.assembly_rules.proofs.TreeLaws.{sum-read}
use Rattle.assembly_rules.proofs.TestLaws.{either_true, every, every-both}

-- what is added less what is taken away, mod 65,536
abbrev pub tree_value : List Label → Sum → ℕ
tree_value labels s = (sum_added labels s + (65536 - sum_taken labels s % 65536)) % 65536

-- a sum that is not too deep is worth its tree's value
pub tree-worth : (labels : List Label) (s : Sum) → sum_depth s ≤ 8 → sum_worth labels (sum_tokens s) ≡ worth (tree_value labels s) (sum_known labels s)
unfolding sum_worth
tree-worth labels s l =
    let r = (sum-read s most_open labels []).worth-read l in
    let w = r.0 in
    let e : sum_within most_open labels (sum_tokens s) ≡ _ = sym (ap (sum_within most_open labels) (append-nil (sum_tokens s))) ∙ r.1.0 ∙ rest-stop (term_of most_open labels) 0 w [] refl in
    let v : w.value ≡ tree_value labels s = omega (arith, r.1.1.0.value, r.1.1.1) in
    ap worth_in e ∙ ap (λ (x : ℕ). worth x w.known) v ∙ ap (worth (tree_value labels s)) r.1.1.0.told

-- the names in a tree, in order
unfoldable mutual
  pub sum_names : Sum → List (List ℕ)
  sum_names (only minus t) = term_names t
  sum_names (more s minus t) = sum_names s ++ term_names t

  pub term_names : Term → List (List ℕ)
  term_names (constant r v d e) = []
  term_names (name r d e) = r ∷ []
  term_names (inside s) = sum_names s

mutual
  unfolding sum_known sum_names

  pub names-known : (labels : List Label) (s : Sum) → sum_known labels s ≡ every (λ r. (label_worth labels r).known) (sum_names s)
  names-known labels (only minus t) = term-names labels t
  names-known labels (more s minus t) = rw (names-known labels s, term-names labels t) (sym (every-both (λ r. (label_worth labels r).known) (sum_names s) (term_names t)))

  term-names : (labels : List Label) (t : Term) → term_known labels t ≡ every (λ r. (label_worth labels r).known) (term_names t)
  term-names labels (constant r v d e) = refl
  term-names labels (name r d e) = go (label_worth labels r).known
    where
      go : (b : Bool) → b ≡ b && true
      go true = refl
      go false = refl
  term-names labels (inside s) = names-known labels s

-- which values stand in a place whose instruction ends at `end`: a byte, signed or not; a bit's number; a width; a target that a signed byte reaches
abbrev pub AsByte : ℕ → Type 0
AsByte v = (v < 256) ⊎ (0xFF80 ≤ v)

abbrev pub FitsPlace : OperandKind → ℕ → ℕ → Type 0
FitsPlace 'R end v = Unit {0}
FitsPlace 'G end v = Unit {0}
FitsPlace 'P end v = Unit {0}
FitsPlace 'M end v = AsByte v
FitsPlace 'byte end v = AsByte v
FitsPlace 'word end v = Unit {0}
FitsPlace 'bit end v = v < 8
FitsPlace 'width end v = (v ≡ 8) ⊎ (v ≡ 16)
FitsPlace 'short end v = (d : ℕ) × (((end + d) % 65536 ≡ v) × ((d < 0x80) ⊎ ((0xFF80 ≤ d) × (d < 65536))))
FitsPlace 'long end v = Unit {0}

pub byte-exactly : (v : ℕ) → (is_byte v ≡ true) ↔ AsByte v
unfolding is_byte
byte-exactly v = (
  λ h. elim ((either_true (ltb v 256) (leb 0xFF80 v)).0 h) [ inl l ↦ inl (ltb-true v 256 l) | inr l ↦ inr (leb-true 0xFF80 v l) ],
  λ x. (either_true (ltb v 256) (leb 0xFF80 v)).1 (elim x [ inl l ↦ inl (lt-ltb v 256 l) | inr l ↦ inr (le-leb 0xFF80 v l) ]),
)

near-exactly : (end v : ℕ) → v < 65536 → (is_near (reach_to end v) ≡ true) ↔ FitsPlace 'short end v
unfolding reach_to
near-exactly end v l = (
  λ h. (reach, (there, elim ((either_true (ltb reach 0x80) (leb 0xFF80 reach)).0 h) [ inl n ↦ inl (ltb-true reach 0x80 n) | inr n ↦ inr (leb-true 0xFF80 reach n, mod-lt (v + 65536 - end % 65536) (lit< tt)) ])),
  λ x. (either_true (ltb reach 0x80) (leb 0xFF80 reach)).1 (elim x.1.1 [
    | inl n ↦ inl (lt-ltb reach 0x80 (rw (back x.0 x.1.0 (omega arith)) n))
    | inr n ↦ inr (le-leb 0xFF80 reach (rw (back x.0 x.1.0 n.1) n.0))
  ]),
)
  where
    reach : ℕ
    reach = reach_to end v

    there : (end + reach) % 65536 ≡ v
    there = omega arith

    back : (d : ℕ) → (end + d) % 65536 ≡ v → d < 65536 → reach ≡ d
    back d e k = omega arith

pub fits-exactly : (k : OperandKind) (end v : ℕ) → v < 65536 → (may_stand k end v ≡ true) ↔ FitsPlace k end v
unfolding may_stand
fits-exactly 'R end v l = (λ h. tt, λ x. refl)
fits-exactly 'G end v l = (λ h. tt, λ x. refl)
fits-exactly 'P end v l = (λ h. tt, λ x. refl)
fits-exactly 'M end v l = byte-exactly v
fits-exactly 'byte end v l = byte-exactly v
fits-exactly 'word end v l = (λ h. tt, λ x. refl)
fits-exactly 'bit end v l = (λ h. ltb-true v 8 h, λ x. lt-ltb v 8 x)
fits-exactly 'width end v l = (
  λ h. elim ((either_true (eqb v 8) (eqb v 16)).0 h) [ inl e ↦ inl (eqb-true v 8 e) | inr e ↦ inr (eqb-true v 16 e) ],
  λ x. (either_true (eqb v 8) (eqb v 16)).1 (elim x [ inl e ↦ inl (eq-eqb v 8 e) | inr e ↦ inr (eq-eqb v 16 e) ]),
)
fits-exactly 'short end v l = near-exactly end v l
fits-exactly 'long end v l = (λ h. tt, λ x. refl)
