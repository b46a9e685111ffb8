-- A channel that is suspended and later resumed (§4.6, §4.7).
use Rattle.std.specs.Prelude.{false, ◌≡◌, ℕ, ◌+◌, ◌<◌}
use Rattle.ground_rules.specs.Buffers.{Buffers, byte_at}
use Rattle.ground_rules.specs.Places.{span, ApartFrom}
use Rattle.ground_rules.specs.States.{channel_of, is_second, block_of, busy_in}
use Rattle.ground_rules.specs.declared.State.{State}
use Rattle.attention_rules.specs.declared.Command.TheVariants.{Suspend, Resume}
use Rattle.attention_rules.specs.Attention.{order_to, attention_of}

-- an attention to a channel that suspends it, and a later one, in any state and memories, that resumes it
pub record Pause (s : State) (m : Buffers) (s' : State) (m' : Buffers) (channel : ℕ) : Type 0 where
  -- the first is accepted, and its command is suspend
  pub accepted : (attention_of s m channel).number ≡ 0
  pub suspends : (order_to s m (is_second channel)).command ≡ Suspend
  -- the second is accepted, and its command is resume
  pub accepted' : (attention_of s' m' channel).number ≡ 0
  pub resumes : (order_to s' m' (is_second channel)).command ≡ Resume
  -- in between nothing changed the channel's registers
  pub registers : channel_of s' (is_second channel) ≡ channel_of (attention_of s m channel).state (is_second channel)
  -- nor the four bytes at PP
  pub bytes : (k : ℕ) → k < 4
      → byte_at m' false ((channel_of s (is_second channel)).pp + k) ≡ byte_at (attention_of s m channel).memory false ((channel_of s (is_second channel)).pp + k)
  -- of which BUSY is none
  pub busy : ApartFrom (span false (channel_of s (is_second channel)).pp 4) false (busy_in (block_of s (is_second channel)))
