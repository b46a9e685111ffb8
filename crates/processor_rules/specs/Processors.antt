-- Two processors on one board: one system memory, and for each its own state and I/O memory (§16.1). A processor is named as a channel is: processor 1 by
-- false, processor 2 by true.
use Rattle.std.specs.Prelude.{Bool, List, ℕ}
use Rattle.ground_rules.specs.Choice.{pick}
use Rattle.ground_rules.specs.Buffers.{Buffers, buffers}
use Rattle.ground_rules.specs.States.{is_channel, is_second, channel_number}

-- the states of both, each kept in the same way: as registers or as bytes (§16.1)
pub record Processors (S : Type 0) : Type 0 where
  pub one : S
  pub two : S

abbrev pub processors : {S : Type 0} → S → S → Processors S
processors one two = record { one = one; two = two }

-- the system memory that both share, and the I/O memory of each (§16.1)
pub record Memories : Type 0 where
  pub sys : List ℕ
  pub io_one : List ℕ
  pub io_two : List ℕ

abbrev pub memories : List ℕ → List ℕ → List ℕ → Memories
memories sys io_one io_two = record { sys = sys; io_one = io_one; io_two = io_two }

-- the numbers 1 and 2 name a processor (else 12, §16.2)
abbrev pub is_processor : ℕ → Bool
is_processor number = is_channel number

-- the processor that a number names
abbrev pub processor_named : ℕ → Bool
processor_named number = is_second number

-- the number of a processor
abbrev pub processor_number : Bool → ℕ
processor_number which = channel_number which

-- the state of a processor
unfoldable pub processor_of : {S : Type 0} → Processors S → Bool → S
processor_of p which = pick which p.two p.one

-- both states with one put back under its name
unfoldable pub with_processor : {S : Type 0} → Processors S → Bool → S → Processors S
with_processor p which s = processors (pick which p.one s) (pick which s p.two)

-- the I/O memory of a processor
unfoldable pub io_of : Memories → Bool → List ℕ
io_of m which = pick which m.io_two m.io_one

-- the two buffers that a processor sees (§16.1)
unfoldable pub buffers_of : Memories → Bool → Buffers
buffers_of m which = buffers m.sys (io_of m which)

-- all three memories with the two that a processor sees put back
unfoldable pub with_buffers : Memories → Bool → Buffers → Memories
with_buffers m which n = memories n.sys (pick which m.io_one n.io) (pick which n.io m.io_two)
