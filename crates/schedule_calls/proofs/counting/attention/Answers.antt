-- `schedule_calls::counting::attention` meets its contract.
-- Assumes nothing.
use Rattle.std.proofs.Common.{eqb}
use Rattle.schedule_calls.specs.Words.{added_all}
use Rattle.schedule_calls.proofs.WordLaws.{once-byte, not-byte}
use Rattle.schedule_calls.proofs.counting.attention.Goals as goal

pub returns : goal.returns
unfolding added_all
returns c =
    rw (c.add-3.ensures, c.add-2.ensures, c.add.ensures, c.from-2.ensures, c.from.ensures, c.from-at.ensures)
    (rw (not-byte c.args.done, once-byte (eqb c.args.channel 1), once-byte (eqb c.args.channel 2)))
