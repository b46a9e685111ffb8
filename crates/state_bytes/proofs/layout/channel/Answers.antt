-- `state_bytes::layout::channel` meets its contract.
-- Assumes nothing.
use mathlib.Core.Path.{◌∙◌}
use Rattle.state_rules.proofs.BlockLaws.{block_inside, channel-at}
use Rattle.state_bytes.proofs.layout.channel.Goals as goal

pub channel_in-requires : goal.channel_in-requires
channel_in-requires c = rw c.block_at.ensures (block_inside _ c.args.second c.requires)

pub returns : goal.returns
returns c = c.channel_in.ensures ∙ rw c.block_at.ensures (channel-at c.args.bytes.now c.args.second)
