-- `memory::store_doubleword` meets its contract.
-- Assumes nothing.
use borrow.Author.Rules.{rules}
use mathlib.Core.Path.{◌∙◌}
use Rattle.ground_rules.specs.Sums.{sum20}
use Rattle.ground_rules.specs.Values.{store_doubleword}
use Rattle.ground_rules.proofs.PlaceLaws.{store-word-reduced}
use Rattle.memory.proofs.store_doubleword.Goals as goal

pub returns : goal.returns
unfolding store_doubleword
returns c =
    c.store_word-2.ensures
    ∙ rw (c.sum20.ensures, c.store_word.ensures, store-word-reduced)
