-- `state_bytes::layout::put_turn` meets its contract.
-- Assumes nothing.
use mathlib.Core.Path.{◌∙◌}
use native.Mathlib.Omega.{arith}
use Rattle.std.proofs.Common.{rules}
use Rattle.state_rules.proofs.CallLaws.{state-length}
use Rattle.state_rules.proofs.BlockLaws.{block_inside}
use Rattle.state_bytes.proofs.PutLaws.{turned-put}
use Rattle.state_bytes.proofs.layout.put_turn.Goals as goal

pub put_agreeing-requires : goal.put_agreeing-requires
put_agreeing-requires c = rw c.block_at.ensures (block_inside _ c.args.second (state-length c.args.bytes.now c.requires.0))

pub put-requires : goal.put-requires
put-requires c = rw (c.put_agreeing.auto.bytes ∙ state-length c.args.bytes.now c.requires.0) (omega arith)

pub returns : goal.returns
returns c =
    let both =
    turned-put c.args.bytes.now (λ i. search rules) c.requires.0 c.args.second c.args.c c.put_agreeing.ensures.fits c.requires.1 c.requires.2 _
    (c.put.ensures ∙ rw (c.flag_byte.ensures, c.put_agreeing.ensures.put, c.block_at.ensures)) in
    record { put = both.0; whole = both.1 }
