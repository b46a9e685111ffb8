-- `memory::doubleword` meets its contract.
-- Assumes nothing.
use borrow.Author.Rules.{rules}
use mathlib.Core.Path.{◌∙◌}
use Rattle.ground_rules.specs.Sums.{sum20}
use Rattle.ground_rules.specs.Values.{doubleword_at}
use Rattle.ground_rules.proofs.PlaceLaws.{word-reduced}
use Rattle.memory.proofs.doubleword.Goals as goal

pub returns : goal.returns
unfolding doubleword_at
returns c =
    c.address.ensures
    ∙ rw (c.word-segment.ensures, c.sum20.ensures, c.word-offset.ensures, word-reduced)
