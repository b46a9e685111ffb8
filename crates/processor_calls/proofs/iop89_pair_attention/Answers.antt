-- `processor_calls::iop89_pair_attention` meets its contract: its closure is the single call.
-- Assumes nothing.
use mathlib.Core.Path.{◌≡◌, ap}
use Rattle.std.proofs.Common.{rules, of_calls}
use Rattle.ground_rules.specs.Buffers.{buffers}
use Rattle.state_rules.specs.Calls.{served, attention_served}
use Rattle.processor_calls.specs.Calls.{served_as, attention_on_bytes, pair_attention}
use Rattle.processor_calls.proofs.iop89_pair_attention.Goals as goal

pub returns : goal.returns
unfolding pair_attention
returns c =
    rw (c.unwrap_or.ensures, c.number.ensures)
    (c.on_named.ensures 12 (attention_on_bytes c.args.channel) (λ x y r met.
    let e : served r y.0.now (buffers y.1.0.now y.1.1.0.now) ≡ attention_served x.0.now (buffers x.1.0.now x.1.1.0.now) c.args.channel = search (rules, of_calls) in ap served_as e))
