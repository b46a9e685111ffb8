-- `touches::accesses::mov_memory` meets its contract.
-- Assumes nothing.
use mathlib.Core.Path.{sym, ◌∙◌}
use Rattle.ground_rules.specs.Places.{span}
use Rattle.instruction_rules.specs.Changes.{places_of}
use Rattle.instruction_rules.specs.MemoryForms.{mov_operand_deed, mov_second_deed, second_at, mov_memory_deed}
use Rattle.touches.proofs.accesses.mov_memory.Goals as goal

pub returns-in_default : goal.returns-in_default
unfolding mov_memory_deed mov_second_deed second_at places_of span
returns-in_default c =
    let e = simp (c.byte-2.ensures, c.onward.ensures, c.byte.ensures, c.after_pair-pair.ensures) at (sym c.decode_second-second.ensures ∙ c.in_default.is) in
    simp (c.at_one.ensures, c.second_number.ensures, c.in_default.is, e)

pub returns : goal.returns
unfolding mov_memory_deed mov_second_deed mov_operand_deed second_at places_of
returns c =
    let e = simp (c.byte-2.ensures, c.onward.ensures, c.byte.ensures, c.after_pair-pair.ensures) at (sym c.decode_second-second.ensures ∙ c.in-Some.is) in
    simp (c.effective-2.ensures, c.effective.ensures, c.onward-2.ensures, c.offset_length.ensures, c.grown_by_size-next.ensures, c.size-size.ensures, c.after_pair-pair.ensures, e)
