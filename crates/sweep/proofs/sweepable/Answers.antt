-- `sweep::sweepable` meets its contract: its tests are those of the definition.
-- Assumes nothing.
use Rattle.turn_rules.specs.Choosing.{external}
use Rattle.sweep_rules.specs.Sweep.{sweepable, plain_transfer, none_external}
use Rattle.sweep.proofs.sweepable.Goals as goal

pub returns : goal.returns
unfolding sweepable plain_transfer none_external external
returns c =
    simp (
      ← c.ranges_fit.ensures,
      ← c.plain_fields.ensures,
      ← c.transferring.ensures,
      ← c.is_running-2.ensures,
      ← c.is_running.ensures,
      ← c.bit-2.ensures,
      ← c.bit.ensures,
      ← c.channel-other.ensures,
      ← c.channel-c.ensures,
    )
