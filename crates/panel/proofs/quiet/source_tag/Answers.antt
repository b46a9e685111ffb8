-- `quiet::source_tag` meets its contract.
-- Assumes nothing.
use Rattle.panel.specs.Bursts.{source_tag}
use Rattle.panel.proofs.quiet.source_tag.Goals as goal

pub returns-then-c : goal.returns-then-c
unfolding source_tag
returns-then-c c = rw c.if-c.true

pub returns-else-c : goal.returns-else-c
unfolding source_tag
returns-else-c c = rw c.if-c.false
