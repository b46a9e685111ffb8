-- The attention call (§4): its number, by the first test that applies (§3.5), and its whole outcome.
use Rattle.std.specs.Prelude.{Bool, List, ℕ}
use Rattle.ground_rules.specs.Buffers.{Buffers}
use Rattle.ground_rules.specs.Places.{Place}
use Rattle.ground_rules.specs.Outcomes.{Outcome, unless, first, settled, counted, given_number}
use Rattle.ground_rules.specs.Stages.{stages_number}
use Rattle.ground_rules.specs.States.{channel_of, with_channel, is_channel, is_second, block_of}
use Rattle.ground_rules.specs.declared.Channel.{Channel}
use Rattle.ground_rules.specs.declared.Mode.{Mode}
use Rattle.ground_rules.specs.declared.State.{State}
use Rattle.attention_rules.specs.declared.Order.{Order}
use Rattle.attention_rules.specs.Blocks.{order_of}
use Rattle.attention_rules.specs.Touched.{order_stages, touched_by_order}
use Rattle.attention_rules.specs.Effects.{channel_ordered, stored_memory}

-- the order that a channel's block holds
unfoldable pub order_to : State → Buffers → Bool → Order
order_to s m second = order_of m (block_of s second) (channel_of s second).pp

-- the number of an order, by its stages: 2 for CCW, 6, then 7, 8 or 9, and 2 for the other bytes
unfoldable pub order_number : Buffers → Order → Mode → ℕ
order_number m o mode = stages_number m (order_stages o mode)

-- the channel after the order that its block holds, where that is accepted
unfoldable pub channel_attended : State → Buffers → Bool → Channel
channel_attended s m second = channel_ordered m (order_to s m second) (channel_of s second)

-- both memories after it
unfoldable pub ordered_memory : State → Buffers → Bool → Buffers
ordered_memory s m second =
    let o = order_to s m second in
    stored_memory o.command m o.block o.pb (channel_of s second)

-- the refusal of what it is given: 12, 11, 10, 13, 14
unfoldable pub given_to : State → Buffers → ℕ → ℕ
given_to s m channel = first (unless (is_channel channel) 12) (given_number s m)

-- then the order's own
unfoldable pub attention_number : State → Buffers → ℕ → ℕ
attention_number s m channel =
    first (given_to s m channel)
    (order_number m (order_to s m (is_second channel)) (channel_of s (is_second channel)).mode)

-- what an attention to a channel leaves
unfoldable pub attention_of : State → Buffers → ℕ → Outcome
attention_of s m channel =
    settled (attention_number s m channel) s m
    (with_channel s (is_second channel) (channel_attended s m (is_second channel)))
    (ordered_memory s m (is_second channel))

-- the bytes that an attention reads or stores, each access once
unfoldable pub touched_by_attention : State → Buffers → ℕ → List Place
touched_by_attention s m channel = touched_by_order (order_to s m (is_second channel)) (channel_of s (is_second channel)).mode

-- how many they are; none of a refused one
unfoldable pub attention_count : State → Buffers → ℕ → ℕ
attention_count s m channel = counted (attention_number s m channel) (touched_by_attention s m channel)
