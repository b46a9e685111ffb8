-- What is worked out of an attention before anything is stored.
use Rattle.std.specs.Prelude.{ℕ}
use Rattle.ground_rules.specs.Buffers.{Buffers}
use Rattle.ground_rules.specs.declared.Channel.{Channel}
use Rattle.attention.specs.declared.Upshot.{Upshot}
use Rattle.attention_rules.specs.Blocks.{order_of}
use Rattle.attention_rules.specs.Touched.{command_count}
use Rattle.attention_rules.specs.Effects.{channel_ordered}
use Rattle.attention_rules.specs.Attention.{order_number}
use Rattle.attention.specs.Writes.{writes_of}

-- the number of the order in a block, to a channel
unfoldable pub planned_number : Buffers → ℕ → Channel → ℕ
planned_number m block c = order_number m (order_of m block c.pp) c.mode

-- what that order comes to where it is accepted
unfoldable pub planned_of : Buffers → ℕ → Channel → Upshot
planned_of m block c =
    let o = order_of m block c.pp in
    record { count = command_count o.command; channel = channel_ordered m o c; writes = writes_of o.command o.block o.pb c }
