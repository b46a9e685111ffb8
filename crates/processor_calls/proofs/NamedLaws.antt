-- What a call leaves by the number that it was given: the processor's own call where it names one, and 12 where it names none.
-- Assumes nothing.
use Prim.Native.Nat.{ℕ}
use mathlib.Core.Path.{◌≡◌, sym, ap, ◌∙◌}
use Rattle.ground_rules.specs.Buffers.{Buffers, buffers}
use Rattle.ground_rules.specs.States.{is_channel, is_second}
use Rattle.processor_rules.proofs.LiftLaws.{lifted-none}
use Rattle.processor_rules.specs.Lifting.{Called, lifted_to, called_on, lifted}
use Rattle.processor_rules.specs.Processors.{Processors, processors, Memories, memories, processor_of, with_processor, io_of, buffers_of, with_buffers}

module _ {S A : Type 0} (twelve : A) (call : S → Buffers → Called S A) (p : Processors S) (m : Memories) (processor : ℕ) where
  -- processor 1: what its call leaves, and the second state and the second I/O memory as they were
  pub leaves-one : processor ≡ 1 → (o : Called S A) → o ≡ call p.one (buffers m.sys m.io_one)
      → lifted_to o.answer (processors o.state p.two) (memories o.memory.sys o.memory.io m.io_two) ≡ lifted twelve call p m processor
  unfolding lifted called_on is_channel is_second processor_of with_processor io_of buffers_of with_buffers
  leaves-one h o e =
      ap (λ (x : Called S A). lifted_to x.answer (processors x.state p.two) (memories x.memory.sys x.memory.io m.io_two)) e
      ∙ ap (lifted twelve call p m) (sym h)

  -- processor 2 likewise
  pub leaves-two : processor ≡ 2 → (o : Called S A) → o ≡ call p.two (buffers m.sys m.io_two)
      → lifted_to o.answer (processors p.one o.state) (memories o.memory.sys m.io_one o.memory.io) ≡ lifted twelve call p m processor
  unfolding lifted called_on is_channel is_second processor_of with_processor io_of buffers_of with_buffers
  leaves-two h o e =
      ap (λ (x : Called S A). lifted_to x.answer (processors p.one x.state) (memories x.memory.sys m.io_one x.memory.io)) e
      ∙ ap (lifted twelve call p m) (sym h)

  -- neither: the answer that stands for 12, and all as it was
  pub leaves_none : ¬ (processor ≡ 1) → ¬ (processor ≡ 2) → lifted_to twelve p m ≡ lifted twelve call p m processor
  leaves_none h k = sym (lifted-none call twelve p m processor (h, k))
