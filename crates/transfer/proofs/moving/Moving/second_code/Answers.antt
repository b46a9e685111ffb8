-- `Moving::second_code` meets its contract.
-- Assumes nothing.
use Rattle.transfer_rules.specs.Stores.{end_code}
use Rattle.transfer.proofs.moving.Moving.second_code.Goals as goal

pub returns : goal.returns
unfolding end_code
returns c two = rw (c.end_from.ensures, c.count_down.ensures, c.code_if.ensures, c.meets-met.ensures, two)
