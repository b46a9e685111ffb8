-- `notation::mnemonics::byte_mark` meets its contract.
-- Assumes nothing.
use Rattle.notation.specs.Writing.{held_by, held_in}
use Rattle.notation.proofs.mnemonics.byte_mark.Goals as goal

pub returns-then-wide : goal.returns-then-wide
unfolding held_in held_by
returns-then-wide c = simp c.if-wide.true

pub returns-else-wide : goal.returns-else-wide
unfolding held_in held_by
returns-else-wide c = simp c.if-wide.false
