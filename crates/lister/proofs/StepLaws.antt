-- The laws of a reader's step: it is at least a byte, and stays in the code.
-- Assumes nothing.
use Prim.Native.Nat.{ℕ, ◌+◌, ◌<◌, ◌≤◌}
use borrow.Author.Tests.{eq-eqb}
use lib.ListN.{length, drop, length-drop}
use mathlib.Core.List.{List}
use mathlib.Core.Path.{◌≡◌, refl, ap, ◌∙◌}
use native.Mathlib.Decide.{ℕ_discrete}
use native.Mathlib.Omega.{arith}
use Rattle.instruction_rules.specs.declared.Memory.{Memory}
use Rattle.instruction_rules.specs.declared.Shape.{Shape}
use Rattle.listing_rules.proofs.RowLaws.{count-some, count-there}
use Rattle.listing_rules.specs.Items.{item_of, count_of, behind_of}
use Rattle.listing_rules.specs.declared.Item.{Item}
use Rattle.listing_rules.specs.declared.Item.TheVariants.{Whole, Byte, End}
use Rattle.lister.specs.Readers.{handed}
use Rattle.std.proofs.Common.{unwrap_or}

-- at the end nothing stands
pub nothing-there : (bytes : List ℕ) → length bytes ≡ 0 → item_of bytes ≡ End
unfolding item_of
nothing-there bytes e = rw (eq-eqb (length bytes) 0 e)

module _ (code : List ℕ) (at : ℕ) (i : Item) (item : i ≡ item_of (drop at code)) (some : i ≡ End → ⊥) where
  there : length (drop at code) ≡ 0 → ⊥
  there e = some (item ∙ nothing-there (drop at code) e)

  -- a step is a byte or more, and no more than there are
  pub step-some : 1 ≤ count_of i
  step-some = rw item (count-some (drop at code) there)

  pub step-inside : at + count_of i ≤ length code
  step-inside = rw item (omega (arith, count-there (drop at code) there, length-drop at code, there))

  -- it leads to the place behind
  pub step-place : at + count_of i ≡ behind_of code at
  unfolding behind_of
  step-place = ap (λ (k : Item). at + count_of k) item

-- an instruction and a byte are something
pub whole-some : {s : Shape} {to : Memory} {n : ℕ} → Whole s to n ≡ End → ⊥
whole-some h = let z : ◌≡◌ {A = ℕ} 0 1 = cc in omega (arith, z)

pub byte-some : Byte ≡ End → ⊥
byte-some h = let z : ◌≡◌ {A = ℕ} 0 1 = cc in omega (arith, z)

-- a place behind is a place
pub place-below : (code : List ℕ) (at n : ℕ) (i : Item) → i ≡ item_of (drop at code) → length code < n → at < n → at + count_of i < n
place-below code at n i item h k = go (ℕ_discrete (length (drop at code)) 0)
  where
    go : Dec (length (drop at code) ≡ 0) → at + count_of i < n
    go (yes e) = rw (item ∙ nothing-there (drop at code) e) (omega (arith, k))
    go (no ne) = rw item (omega (arith, h, count-there (drop at code) ne, length-drop at code, ne))

-- what is handed out is what stands there, and where nothing is handed out it is the end
pub handed-back : (i : Item) → unwrap_or (handed i) End ≡ i
handed-back (Whole shape to count) = refl
handed-back Byte = refl
handed-back End = refl
