-- `memory::store_word` meets its contract.
-- Assumes nothing.
use borrow.Author.Rules.{rules}
use mathlib.Core.Path.{◌∙◌}
use Rattle.ground_rules.specs.Sums.{sum20}
use Rattle.ground_rules.specs.Values.{store_word}
use Rattle.ground_rules.proofs.PlaceLaws.{store-reduced}
use Rattle.memory.proofs.store_word.Goals as goal

pub returns : goal.returns
unfolding store_word
returns c =
    c.store_byte-2.ensures
    ∙ rw (c.high_byte.ensures, c.sum20.ensures, c.store_byte.ensures, c.low_byte.ensures, store-reduced)
