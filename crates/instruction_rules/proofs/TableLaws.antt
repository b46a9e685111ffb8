-- The summary by its opcodes: a pair is what the rows with its own opcode say.
-- Assumes nothing.
use Rattle.std.proofs.Common.{Ok, Err}
use mathlib.Core.Path.{◌≡◌, refl, ap}
use mathlib.Core.Bool.{Bool, true, false, ◌&&◌}
use mathlib.Core.List.{List, [], ◌∷◌}
use Prim.Native.Nat.{ℕ}
use lib.Dec.{T, eqb}
use borrow.Author.Tests.{eq-eqb}
use Rattle.ground_rules.specs.Choice.{pick}
use Rattle.instruction_rules.specs.Pairs.{columns}
use Rattle.instruction_rules.specs.Rows.{reading, is_control}
use Rattle.instruction_rules.specs.declared.Pair.{Pair}
use Rattle.instruction_rules.specs.Decoded.{Decoded}
use Rattle.instruction_rules.specs.declared.Unread.TheVariants.{ControlUsed}
use Rattle.instruction_rules.specs.Table.{SummaryRow}
use Rattle.instruction_rules.specs.Reading.{fits, lookup}

pub left : (a b : Bool) → T (a && b) → T a
left true b t = tt
left false b t = t

pub right : (a b : Bool) → T (a && b) → T b
right true b t = t
right false b t = absurd t

-- a number is none of a list's
abbrev pub Avoids : ℕ → List ℕ → Type 0
Avoids x [] = Unit
Avoids x (k ∷ ks) = Avoids x ks × (x ≡ k → ⊥)

-- a row before others where a test holds; each is named once, since the checker works out all that it is given
abbrev keep_if : Bool → SummaryRow → List SummaryRow → List SummaryRow
keep_if true r rs = r ∷ rs
keep_if false r rs = rs

-- the rows with an opcode
unfoldable pub rows_at : ℕ → List SummaryRow → List SummaryRow
rows_at k [] = []
rows_at k (r ∷ rs) = keep_if (eqb k r.opcode) r (rows_at k rs)

-- a pair is what the rows with its opcode say
pub own-rows : (rs : List SummaryRow) (p : Pair) → lookup rs p ≡ lookup (rows_at p.opcode rs) p
unfolding lookup rows_at
own-rows [] p = refl
own-rows (r ∷ rs) p = go (eqb p.opcode r.opcode) refl (own-rows rs p)
  where
    go : (b : Bool) → eqb p.opcode r.opcode ≡ b → lookup rs p ≡ lookup (rows_at p.opcode rs) p → lookup (r ∷ rs) p ≡ lookup (keep_if b r (rows_at p.opcode rs)) p
    go true e rest = ap (λ (d : Decoded). pick (fits r p) (pick (r.control && is_control p) (Err ControlUsed) (Ok (r.shape p))) d) rest
    go false e rest = rw e rest

-- what a row says of a pair with its opcode
abbrev pub says : SummaryRow → Pair → Decoded
says r p = reading (columns r.rrr r.dd r.aa r.w r.mm p) (r.control && is_control p) (r.shape p)

-- a row alone
pub alone : (r : SummaryRow) (p : Pair) → p.opcode ≡ r.opcode → lookup (r ∷ []) p ≡ says r p
unfolding lookup
alone r p e = rw (eq-eqb p.opcode r.opcode e)
