-- `notation::mnemonics::is_jump` meets its contract.
-- Assumes nothing.
use mathlib.Core.Bool.{false}
use mathlib.Core.Path.{◌≡◌, refl}
use Prim.Native.Nat.{ℕ}
use Rattle.instruction_rules.specs.declared.Work.{Work}
use Rattle.instruction_rules.specs.declared.Work.TheVariants.{Mov, Add, Or, And, Not}
use Rattle.listing_rules.specs.Mnemonics.{is_jump}
use Rattle.notation.proofs.mnemonics.is_jump.Goals as goal

-- only an addition is
other-work : (work : Work) (rrr : ℕ) → (work ≡ Add → ⊥) → false ≡ is_jump work rrr
unfolding is_jump
other-work Mov rrr ne = refl
other-work Add rrr ne = absurd (ne refl)
other-work Or rrr ne = refl
other-work And rrr ne = refl
other-work Not rrr ne = refl

pub returns-in-Add : goal.returns-in-Add
unfolding is_jump
returns-in-Add c = rw c.in-Add.is

pub returns-in_default : goal.returns-in_default
returns-in_default c = other-work c.args.work c.args.rrr c.in_default.not-Add
