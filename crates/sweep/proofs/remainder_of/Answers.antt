-- `sweep::remainder_of` meets its contract: the source is GA, or GB by its field.
-- Assumes nothing.
use Rattle.transfer_rules.specs.Sides.{source, destination}
use Rattle.sweep.proofs.remainder_of.Goals as goal

pub returns-then-f : goal.returns-then-f
unfolding source destination
returns-then-f c = (rw (c.bytes_to_go-bytes.ensures.0, c.if-f.true), c.bytes_to_go-bytes.ensures.1, c.bytes_to_go-bytes.ensures.2)

pub returns : goal.returns
unfolding source destination
returns c = (rw (c.bytes_to_go-bytes.ensures.0, c.if-f.false), c.bytes_to_go-bytes.ensures.1, c.bytes_to_go-bytes.ensures.2)
