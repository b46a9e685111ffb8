-- `touches::power_up` meets its contract.
-- Assumes nothing.
use Rattle.ground_rules.specs.Buffers.{buffers}
use Rattle.touches.proofs.CallLaws.{power-refused, power-fits}
use mathlib.Core.Path.{sym, ◌∙◌}
use Rattle.touches.proofs.power_up.Goals as goal

pub returns-then-not-within_limits : goal.returns-then-not-within_limits
returns-then-not-within_limits c =
    let a = c.args in
    let m = buffers a.sys.now a.io.now in
    power-refused m a.places.now (sym c.within_limits.ensures ∙ c.if-not-within_limits.true)

pub returns : goal.returns
returns c =
    let a = c.args in
    let m = buffers a.sys.now a.io.now in
    c.power.ensures ∙ power-fits m a.places.now (sym c.within_limits.ensures ∙ c.if-not-within_limits.false)
