-- `Moving::is_half` meets its contract.
-- Assumes nothing.
use Rattle.std.proofs.Common.{refl}
use Rattle.transfer_rules.specs.Parts.{fetches_apart, stores_apart, is_half}
use Rattle.transfer.specs.Setups.{setup_of}
use Rattle.transfer.proofs.moving.Moving.is_half.Goals as goal

pub returns-then-synchronised-eq0 : goal.returns-then-synchronised-eq0
unfolding is_half fetches_apart stores_apart
returns-then-synchronised-eq0 c = rw c.if-synchronised-eq0.true refl

pub returns : goal.returns
unfolding is_half fetches_apart stores_apart setup_of
returns c = rw c.args.self.said
