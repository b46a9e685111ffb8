-- `memory::word` meets its contract.
-- Assumes nothing.
use borrow.Author.Rules.{rules}
use mathlib.Core.Path.{◌∙◌}
use Rattle.ground_rules.specs.Sums.{sum20}
use Rattle.ground_rules.specs.Values.{word_at}
use Rattle.ground_rules.proofs.PlaceLaws.{byte-reduced}
use Rattle.memory.proofs.word.Goals as goal

pub returns : goal.returns
unfolding word_at
returns c =
    c.word.ensures
    ∙ rw (c.byte-high.ensures, c.sum20.ensures, c.byte-low.ensures, byte-reduced)
