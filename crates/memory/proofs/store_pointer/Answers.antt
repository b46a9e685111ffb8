-- `memory::store_pointer` meets its contract.
-- Assumes nothing.
use borrow.Author.Rules.{rules}
use mathlib.Core.Path.{◌∙◌}
use Rattle.ground_rules.specs.Sums.{sum20}
use Rattle.ground_rules.specs.Values.{store_pointer}
use Rattle.ground_rules.proofs.PlaceLaws.{store-reduced}
use Rattle.memory.proofs.store_pointer.Goals as goal

pub returns : goal.returns
unfolding store_pointer
returns c =
    c.store_byte-3.ensures
    ∙ rw (c.stored_high.ensures, c.sum20-2.ensures, c.store_byte-2.ensures, c.stored_middle.ensures, c.sum20.ensures, c.store_byte.ensures, c.stored_low.ensures, store-reduced, store-reduced)
