-- A sum as a tree: constants and names, terms added and taken away, sums in parentheses; its tokens, its depth and its value (§14.2).
use Rattle.std.specs.Prelude.{◌≡◌, Bool, true, false, ◌&&◌, List, [], ◌∷◌, ◌++◌, ℕ, suc, ◌+◌}
use Rattle.ground_rules.specs.Choice.{pick}
use Rattle.std.specs.declared.option.Option.TheVariants.{Some}
use Rattle.assembly_rules.specs.Text.{Token}
use Rattle.assembly_rules.specs.Text.Token.{run, mark}
use Rattle.assembly_rules.specs.Numbers.{constant_of}
use Rattle.assembly_rules.specs.Sums.{begins_digit, is_register, greater, Label, label_worth}

mutual
  -- a first term, behind a minus or not; or a sum and a term behind it, taken away or added
  pub data Sum : Type 0 where
    only : Bool → Term → Sum
    more : Sum → Bool → Term → Sum

  -- a constant, a name that is no register, a sum in parentheses
  pub data Term : Type 0 where
    constant : (r : List ℕ) (v : ℕ) → begins_digit r ≡ true → constant_of r ≡ Some v → Term
    name : (r : List ℕ) → begins_digit r ≡ false → is_register r ≡ false → Term
    inside : Sum → Term

-- its tokens, in order
unfoldable mutual
  pub sum_tokens : Sum → List Token
  sum_tokens (only minus t) = pick minus (mark 45 ∷ []) [] ++ term_tokens t
  sum_tokens (more s minus t) = sum_tokens s ++ (mark (pick minus 45 43) ∷ term_tokens t)

  pub term_tokens : Term → List Token
  term_tokens (constant r v d e) = run r ∷ []
  term_tokens (name r d e) = run r ∷ []
  term_tokens (inside s) = mark 40 ∷ (sum_tokens s ++ (mark 41 ∷ []))

-- how many parentheses are open at once
unfoldable mutual
  pub sum_depth : Sum → ℕ
  sum_depth (only minus t) = term_depth t
  sum_depth (more s minus t) = greater (sum_depth s) (term_depth t)

  pub term_depth : Term → ℕ
  term_depth (constant r v d e) = 0
  term_depth (name r d e) = 0
  term_depth (inside s) = suc (sum_depth s)

-- its value in whole numbers, what is added and what is taken away, under some labels; a name that is unknown counts 0
unfoldable mutual
  pub sum_added : List Label → Sum → ℕ
  sum_added labels (only minus t) = pick minus (term_taken labels t) (term_added labels t)
  sum_added labels (more s minus t) = sum_added labels s + pick minus (term_taken labels t) (term_added labels t)

  pub term_added : List Label → Term → ℕ
  term_added labels (constant r v d e) = v
  term_added labels (name r d e) = (label_worth labels r).value
  term_added labels (inside s) = sum_added labels s

  pub sum_taken : List Label → Sum → ℕ
  sum_taken labels (only minus t) = pick minus (term_added labels t) (term_taken labels t)
  sum_taken labels (more s minus t) = sum_taken labels s + pick minus (term_added labels t) (term_taken labels t)

  pub term_taken : List Label → Term → ℕ
  term_taken labels (constant r v d e) = 0
  term_taken labels (name r d e) = 0
  term_taken labels (inside s) = sum_taken labels s

-- whether all its names are known
unfoldable mutual
  pub sum_known : List Label → Sum → Bool
  sum_known labels (only minus t) = term_known labels t
  sum_known labels (more s minus t) = sum_known labels s && term_known labels t

  pub term_known : List Label → Term → Bool
  term_known labels (constant r v d e) = true
  term_known labels (name r d e) = (label_worth labels r).known
  term_known labels (inside s) = sum_known labels s
