-- `memory::stored_pointer` meets its contract.
-- Assumes nothing.
use borrow.Author.Rules.{rules}
use Rattle.ground_rules.specs.Sums.{sum20}
use Rattle.ground_rules.specs.Values.{pointer_at}
use Rattle.ground_rules.proofs.PlaceLaws.{byte-reduced}
use Rattle.memory.proofs.stored_pointer.Goals as goal

pub returns : goal.returns
unfolding pointer_at
returns c =
    rw (c.stored_tag.ensures, c.stored_address.ensures, c.byte-high.ensures, c.sum20-2.ensures, c.byte-middle.ensures, c.sum20.ensures, c.byte-low.ensures, byte-reduced, byte-reduced)
