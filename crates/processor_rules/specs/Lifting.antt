-- A call of one processor lifted to both (§16).
use Rattle.std.specs.Prelude.{Bool, ℕ}
use Rattle.ground_rules.specs.Choice.{pick}
use Rattle.ground_rules.specs.Buffers.{Buffers}
use Rattle.processor_rules.specs.Processors.{Processors, Memories, is_processor, processor_named, processor_of, with_processor, buffers_of, with_buffers}

-- what a call of one processor gives: its answer, its state and both memories after it
pub record Called (S A : Type 0) : Type 0 where
  pub answer : A
  pub state : S
  pub memory : Buffers

abbrev pub called_with : {S A : Type 0} → A → S → Buffers → Called S A
called_with answer s m = record { answer = answer; state = s; memory = m }

-- what a call on two processors leaves: the answer, both states and all three memories
pub record Lifted (S A : Type 0) : Type 0 where
  pub answer : A
  pub both : Processors S
  pub memory : Memories

abbrev pub lifted_to : {S A : Type 0} → A → Processors S → Memories → Lifted S A
lifted_to answer p m = record { answer = answer; both = p; memory = m }

-- a call of one of them: it is given that one's state and the two buffers that it sees, and what it gives is put back there (§16.1)
unfoldable pub called_on : {S A : Type 0} → (S → Buffers → Called S A) → Processors S → Memories → Bool → Lifted S A
called_on call p m which =
    let o = call (processor_of p which) (buffers_of m which) in
    lifted_to o.answer (with_processor p which o.state) (with_buffers m which o.memory)

-- the one lifting: the call goes to the processor that a number names; one that is neither 1 nor 2 is answered by what stands for 12, before all
-- else (§16.2)
unfoldable pub lifted : {S A : Type 0} → A → (S → Buffers → Called S A) → Processors S → Memories → ℕ → Lifted S A
lifted twelve call p m processor = pick (is_processor processor) (called_on call p m (processor_named processor)) (lifted_to twelve p m)
