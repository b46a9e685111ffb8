-- `memory::span_touchable` meets its contract.
-- Assumes nothing.
use borrow.Author.Rules.{rules}
use mathlib.Core.Path.{sym, ◌∙◌}
use Rattle.ground_rules.specs.Buffers.{buffers}
use Rattle.ground_rules.proofs.SpanLaws.{span-io, span-system}
use Rattle.memory.proofs.span_touchable.Goals as goal

pub returns-then-tag : goal.returns-then-tag
returns-then-tag c =
    let a = c.args in
    rw c.if-tag.true (sym (span-io (buffers a.sys.now a.io.now) a.address a.count))

pub returns : goal.returns
returns c =
    let a = c.args in
    c.span_lent.ensures ∙ rw c.if-tag.false (sym (span-system (buffers a.sys.now a.io.now) a.address a.count))
