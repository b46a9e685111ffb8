-- `reads::see` meets its contract.
-- Assumes nothing.
use Rattle.ground_rules.specs.Buffers.{touchable_at}
use Rattle.transfer.proofs.reads.see.Goals as goal

pub returns-then-tag : goal.returns-then-tag
unfolding touchable_at
returns-then-tag c = rw (c.byte.ensures, c.if-tag.true)

pub returns : goal.returns
unfolding touchable_at
returns c = rw (c.byte-byte.ensures, c.lent.ensures, c.if-tag.false)
