-- `state_bytes::layout::block_at` meets its contract.
-- Assumes nothing.
use Rattle.state_rules.specs.Layout.{block_from}
use Rattle.state_bytes.proofs.layout.block_at.Goals as goal

pub returns-then-second : goal.returns-then-second
unfolding block_from
returns-then-second c = rw c.if-second.true

pub returns-else-second : goal.returns-else-second
unfolding block_from
returns-else-second c = rw c.if-second.false
