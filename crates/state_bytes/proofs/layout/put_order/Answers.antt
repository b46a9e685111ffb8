-- `state_bytes::layout::put_order` meets its contract.
-- Assumes nothing.
use mathlib.Core.Path.{◌∙◌}
use Rattle.std.proofs.Common.{rules}
use Rattle.state_rules.proofs.CallLaws.{state-length}
use Rattle.state_rules.proofs.BlockLaws.{block_inside, put-ordered}
use Rattle.state_bytes.proofs.layout.put_order.Goals as goal

pub put_channel-requires : goal.put_channel-requires
put_channel-requires c = rw c.block_at.ensures (block_inside _ c.args.second (state-length c.args.bytes.now c.requires))

pub returns : goal.returns
returns c =
    let both =
    let a = c.args in
    put-ordered a.bytes.now (λ i. search rules) c.requires a.second a.c c.put_channel.ensures.fits _
    (c.put_channel.ensures.put ∙ rw c.block_at.ensures) in
    record { put = both.0; whole = both.1 }
