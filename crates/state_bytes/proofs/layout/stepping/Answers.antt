-- `state_bytes::layout::stepping` meets its contract.
-- Assumes nothing.
use mathlib.Core.Path.{sym, ap, ◌∙◌}
use Rattle.ground_rules.proofs.FieldLaws.{agreed, agree-channel-of}
use Rattle.state_rules.specs.Layout.{channel_in, state_in}
use Rattle.state_rules.proofs.BlockLaws.{block_inside, channel-at}
use Rattle.state_rules.proofs.CallLaws.{state-length}
use Rattle.state_bytes.proofs.layout.stepping.Goals as goal

pub channel_in-c-requires : goal.channel_in-c-requires
channel_in-c-requires c = rw c.block_at.ensures (block_inside _ c.args.second (state-length c.args.bytes.now c.requires.0))

pub returns : goal.returns
returns c =
    let b = c.args.bytes.now in
    let e = c.channel_in-c.ensures ∙ ap (channel_in b) c.block_at.ensures ∙ channel-at b c.args.second in
    rw (c.split-c.ensures, e, sym (agreed _ (agree-channel-of (state_in b) c.args.second c.requires.1)))
