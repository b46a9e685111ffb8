-- `notation::mnemonics::zero_stem` meets its contract.
-- Assumes nothing.
use Rattle.notation.specs.Writing.{held_by, held_in}
use Rattle.notation.proofs.mnemonics.zero_stem.Goals as goal

pub returns-then-zero : goal.returns-then-zero
unfolding held_in held_by
returns-then-zero c = rw c.if-zero.true

pub returns-else-zero : goal.returns-else-zero
unfolding held_in held_by
returns-else-zero c = rw c.if-zero.false
