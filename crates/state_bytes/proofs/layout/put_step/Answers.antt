-- `state_bytes::layout::put_step` meets its contract.
-- Assumes nothing.
use mathlib.Core.Path.{◌∙◌}
use native.Mathlib.Omega.{arith}
use Rattle.std.proofs.Common.{rules}
use Rattle.state_rules.proofs.CallLaws.{state-length}
use Rattle.state_rules.proofs.BlockLaws.{block_inside, put-done}
use Rattle.state_bytes.proofs.layout.put_step.Goals as goal

pub put-requires : goal.put-requires
put-requires c = rw (state-length c.args.bytes.now c.requires) (omega arith)

pub put_channel-requires : goal.put_channel-requires
put_channel-requires c =
    rw c.block_at.ensures
    (block_inside _ c.args.second (c.put.auto.bytes ∙ state-length c.args.bytes.now c.requires))

pub returns : goal.returns
returns c =
    let both =
    let a = c.args in
    put-done a.bytes.now (λ i. search rules) c.requires a.second a.c c.put_channel.ensures.fits _
    (c.put_channel.ensures.put ∙ rw (c.block_at.ensures, c.put.ensures, c.flag_byte.ensures)) in
    record { put = both.0; whole = both.1 }
