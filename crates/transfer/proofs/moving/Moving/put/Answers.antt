-- `Moving::put` meets its contract.
-- Assumes nothing.
use Rattle.std.proofs.Common.{Bool, ap, sym, ◌∙◌}
use borrow.Author.Tests.{not-true, not-false}
use Rattle.ground_rules.specs.Buffers.{Buffers, buffers, touchable_at}
use Rattle.transfer_rules.specs.Stores.{put_on}
use Rattle.transfer_rules.specs.Sides.{destination}
use Rattle.ground_rules.proofs.ChoiceLaws.{and-true}
use Rattle.transfer.proofs.FetchLaws.{destination-is}
use Rattle.transfer_rules.proofs.TouchLaws.{places-touchable, stored-if}
use Rattle.transfer.proofs.moving.Moving.put.Goals as goal

pub returns-then-not-two : goal.returns-then-not-two
unfolding put_on
returns-then-not-two c =
    let a = c.args in
    let m = buffers a.sys.now a.io.now in
    let one = not-true a.two c.if-not-two.true-raw in
    let d = destination-is a.self.channel a.self.setup a.self.said in record {
      told = c.put_one.ensures.0 ∙ rw (places-touchable, one, d) (sym (and-true (touchable_at m (destination a.self.channel).pointer.tag (destination a.self.channel).pointer.address)));
      stored = c.put_one.ensures.1 ∙ rw (c.put_one.ensures.0, one, d) (stored-if m (destination a.self.channel).pointer.tag (destination a.self.channel).pointer.address a.d.first);
    }

pub returns : goal.returns
unfolding put_on
returns c =
    let a = c.args in
    let two = not-false a.two c.if-not-two.false-raw in
    let d = destination-is a.self.channel a.self.setup a.self.said in record {
      told = c.put_two.ensures.0 ∙ rw (places-touchable, two, c.second_into.ensures, d);
      stored = c.put_two.ensures.1 ∙ rw (two, c.second_into.ensures, d);
    }
