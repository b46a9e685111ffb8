-- `execute::changes::made` meets its contract.
-- Assumes nothing.
use Rattle.std.proofs.Common.{sym, refl, ◌∙◌}
use borrow.Author.Tests.{not-true, not-false}
use Rattle.ground_rules.specs.Buffers.{buffers}
use Rattle.ground_rules.specs.Places.{span, all_pass}
use Rattle.ground_rules.specs.Values.{pointer}
use Rattle.instruction_rules.specs.Changes.{change, places_of}
use Rattle.instruction_rules.proofs.ChangeLaws.{stored-none}
use Rattle.execute.proofs.changes.made.Goals as goal

pub returns-then-count-eq0 : goal.returns-then-count-eq0
unfolding places_of span all_pass
returns-then-count-eq0 c =
    let a = c.args in
    let m = buffers a.sys.now a.io.now in
    record { told = rw c.if-count-eq0.true; stored = sym (stored-none m (change a.count (pointer a.address a.tag) a.v) c.if-count-eq0.true) }

pub returns-then-not-span_touchable : goal.returns-then-not-span_touchable
unfolding places_of
returns-then-not-span_touchable c = record { told = sym (sym c.span_touchable.ensures ∙ not-true _ c.if-not-span_touchable.true-raw); stored = refl }

pub returns : goal.returns
unfolding places_of
returns c = record { told = sym (sym c.span_touchable.ensures ∙ not-false _ c.if-not-span_touchable.false-raw); stored = c.store.ensures }
