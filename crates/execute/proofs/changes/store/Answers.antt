-- `execute::changes::store` meets its contract.
-- Assumes nothing.
use Rattle.std.proofs.Common.{sym, ◌∙◌}
use Rattle.ground_rules.proofs.PlaceLaws.{store-reduced}
use Rattle.ground_rules.specs.Buffers.{buffers}
use Rattle.ground_rules.specs.Values.{pointer}
use Rattle.instruction_rules.specs.Changes.{change}
use Rattle.instruction_rules.proofs.ChangeLaws.{stored_one, stored-two, stored-three}
use Rattle.execute.proofs.changes.store.Goals as goal

pub returns-then-count-eq1 : goal.returns-then-count-eq1
returns-then-count-eq1 c =
    let a = c.args in
    let m = buffers a.sys.now a.io.now in
    c.store_byte.ensures ∙ sym (stored_one m (change a.count (pointer a.address a.tag) a.v) c.if-count-eq1.true)

pub returns-then-count-eq2 : goal.returns-then-count-eq2
returns-then-count-eq2 c =
    let a = c.args in
    let m = buffers a.sys.now a.io.now in
    c.store_byte-2.ensures
    ∙ rw (c.sum20.ensures, c.store_byte.ensures, store-reduced) (sym (stored-two m (change a.count (pointer a.address a.tag) a.v) c.if-count-eq2.true))

pub returns : goal.returns
returns c =
    let a = c.args in
    let m = buffers a.sys.now a.io.now in
    c.store_byte-3.ensures
    ∙ rw (c.sum20-2.ensures, c.store_byte-2.ensures, c.sum20.ensures, c.store_byte.ensures, store-reduced, store-reduced) (sym (stored-three m (change a.count (pointer a.address a.tag) a.v) c.requires c.if-count-eq1.false c.if-count-eq2.false))
