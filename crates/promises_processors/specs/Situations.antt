-- Two processors with all three memories, what one of them sees of that, and what a call to one of them leaves.
use Rattle.std.specs.Prelude.{Bool, ℕ}
use Rattle.ground_rules.specs.Buffers.{Buffers}
use Rattle.ground_rules.specs.States.{channel_of}
use Rattle.ground_rules.specs.declared.Channel.{Channel}
use Rattle.ground_rules.specs.declared.State.{State}
use Rattle.processor_rules.specs.Calls.{attention_on, step_on}
use Rattle.processor_rules.specs.Lifting.{Called, Lifted, lifted}
use Rattle.processor_rules.specs.Processors.{Processors, Memories, processor_number, processor_of, buffers_of}

-- both processors and all three memories
pub record Situation : Type 0 where
  pub both : Processors State
  pub memory : Memories

-- what a call leaves of them
abbrev pub left_in : {A : Type 0} → Lifted State A → Situation
left_in o = record { both = o.both; memory = o.memory }

-- the state of a processor, a channel of it, and the two buffers that it sees
abbrev pub state_for : Bool → Situation → State
state_for which x = processor_of x.both which

abbrev pub channel_for : Bool → Bool → Situation → Channel
channel_for which second x = channel_of (state_for which x) second

abbrev pub memory_for : Bool → Situation → Buffers
memory_for which x = buffers_of x.memory which

-- after a step of a processor, an attention to one of its channels, and any call of it
abbrev pub after_step : Bool → ℕ → Situation → Situation
after_step which lines x = left_in (step_on x.both x.memory (processor_number which) lines)

abbrev pub after_attention : Bool → ℕ → Situation → Situation
after_attention which channel x = left_in (attention_on x.both x.memory (processor_number which) channel)

abbrev pub after_call : {A : Type 0} → Bool → A → (State → Buffers → Called State A) → Situation → Situation
after_call which twelve call x = left_in (lifted twelve call x.both x.memory (processor_number which))
