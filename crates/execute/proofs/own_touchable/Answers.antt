-- `execute::own_touchable` meets its contract.
-- Assumes nothing.
use Rattle.std.proofs.Common.{sym}
use Rattle.execute.proofs.own_touchable.Goals as goal

pub returns-then-near : goal.returns-then-near
returns-then-near c = sym (c.requires c.if-near.true)
