-- `Moving::compare` meets its contract.
-- Assumes nothing.
use Rattle.transfer_rules.specs.Ends.{code_if}
use Rattle.transfer.specs.Setups.{setup_of}
use Rattle.transfer_rules.specs.Stores.{first_meets, match_met, cut_short, stores_two}
use Rattle.transfer_rules.proofs.MatchLaws.{off-stores, off-unmet}
use Rattle.transfer.proofs.moving.Moving.compare.Goals as goal

pub returns-then-tmc-eq0 : goal.returns-then-tmc-eq0
unfolding setup_of code_if
returns-then-tmc-eq0 c =
    let a = c.args in
    rw (off-stores a.self.channel a.d c.if-tmc-eq0.true, off-unmet a.self.channel a.d c.if-tmc-eq0.true, a.self.said)

pub returns : goal.returns
unfolding setup_of stores_two match_met cut_short first_meets
returns c = rw (c.code_if.ensures, c.meets-second.ensures, c.meets-first.ensures, c.args.self.said)
