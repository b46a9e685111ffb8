-- `transfer::stores/put_one` meets its contract.
-- Assumes nothing.
use borrow.Author.Rules.{rules}
use mathlib.Core.Path.{◌∙◌}
use Rattle.ground_rules.specs.Buffers.{touchable_at}
use Rattle.transfer.proofs.stores.put_one.Goals as goal

pub returns-then-tag : goal.returns-then-tag
unfolding touchable_at
returns-then-tag c = (rw c.if-tag.true, c.store_byte.ensures ∙ rw c.if-tag.true)

pub returns : goal.returns
unfolding touchable_at
returns c = (c.lent-there.ensures ∙ rw c.if-tag.false, c.store_byte-2.ensures ∙ rw c.if-tag.false)
