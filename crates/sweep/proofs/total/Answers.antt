-- `sweep::total` meets its contract: a step a byte where both sides are narrow, otherwise the lone byte and half of the rest.
-- Assumes nothing.
use mathlib.Core.Bool.{Bool, not, ◌&&◌}
use mathlib.Core.Path.{◌≡◌, sym, ap₂}
use Rattle.ground_rules.specs.Psw.{source_wide, destination_wide}
use Rattle.ground_rules.specs.declared.Channel.{Channel}
use Rattle.transfer_rules.specs.Sides.{source, destination}
use Rattle.block_rules.specs.Totals.{narrow, total}
use Rattle.sweep.proofs.total.Goals as goal

-- whether both sides are narrow, by what the calls answered
sides : (x y : Bool) (a : Channel) → x ≡ source_wide a.psw → y ≡ destination_wide a.psw → narrow a ≡ not x && not y
unfolding narrow source destination
sides x y a ex ey = sym (ap₂ (λ (b d : Bool). not b && not d) ex ey)

pub returns-then-source_wide-destination_wide : goal.returns-then-source_wide-destination_wide
unfolding total
returns-then-source_wide-destination_wide c =
    rw (
      sides c.source_wide.result c.destination_wide.result c.args.c c.source_wide.ensures
          c.destination_wide.ensures,
      c.if-source_wide-destination_wide.true,
    )

pub returns : goal.returns
unfolding total
returns c =
    rw (
      c.alone-first.ensures.0,
      sides c.source_wide.result c.destination_wide.result c.args.c c.source_wide.ensures
          c.destination_wide.ensures,
      c.if-source_wide-destination_wide.false,
    )
