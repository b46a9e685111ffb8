-- `operands::is_move` meets its contract.
-- Assumes nothing.
use Rattle.std.proofs.Common.{Bool, true, false, ◌≡◌, refl, sym}
use Rattle.instruction_rules.specs.Operands.{is_move}
use Rattle.instruction_rules.specs.declared.Work.{Work}
use Rattle.instruction_rules.specs.declared.Work.TheVariants.{Mov, Add, Or, And}
use Rattle.execute.proofs.operands.is_move.Goals as goal

-- work that is not MOV
other : (w : Work) → (w ≡ Mov → ⊥) → false ≡ is_move w
unfolding is_move
other Mov h = absurd (h refl)
other Add h = refl
other Or h = refl
other And h = refl
other Work.Not h = refl

pub returns-in-Mov : goal.returns-in-Mov
unfolding is_move
returns-in-Mov c = simp c.in-Mov.is

pub returns-in_default : goal.returns-in_default
returns-in_default c = other c.args.work c.in_default.not-Mov
