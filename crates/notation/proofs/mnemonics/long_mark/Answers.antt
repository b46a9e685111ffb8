-- `notation::mnemonics::long_mark` meets its contract.
-- Assumes nothing.
use Rattle.notation.specs.Writing.{held_by, held_in}
use Rattle.notation.proofs.mnemonics.long_mark.Goals as goal

pub returns-then-two : goal.returns-then-two
unfolding held_in held_by
returns-then-two c = simp c.if-two.true

pub returns-else-two : goal.returns-else-two
unfolding held_in held_by
returns-else-two c = simp c.if-two.false
