-- `processor_calls::iop89_pair_power_up` meets its contract: its closure is the single call.
-- Assumes nothing.
use mathlib.Core.Path.{◌≡◌, ap}
use Rattle.std.proofs.Common.{rules, of_calls}
use Rattle.ground_rules.specs.Buffers.{buffers}
use Rattle.state_rules.specs.Calls.{served, power_served}
use Rattle.processor_calls.specs.Calls.{served_as, power_up_on_bytes, pair_power_up}
use Rattle.processor_calls.proofs.iop89_pair_power_up.Goals as goal

pub returns : goal.returns
unfolding pair_power_up
returns c =
    rw (c.unwrap_or.ensures, c.number.ensures)
    (c.on_named.ensures 12 power_up_on_bytes (λ x y r met.
    let e : served r y.0.now (buffers y.1.0.now y.1.1.0.now) ≡ power_served x.0.now (buffers x.1.0.now x.1.1.0.now) = search (rules, of_calls) in ap served_as e))
