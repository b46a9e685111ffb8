-- `quiet::through` meets its contract.
-- Assumes nothing.
use Rattle.std.proofs.Common.{sym, ◌∙◌}
use borrow.Author.Tests.{not-true, not-false}
use Rattle.panel.proofs.QuietLaws.{through_plain, through-beyond, through-entry}
use Rattle.panel.proofs.quiet.through.Goals as goal

pub returns-in_err-byte : goal.returns-in_err-byte
returns-in_err-byte c =
    let a = c.args in
    rw c.from_residual.ensures (through-beyond a.c _ a.at c.read.result c.source_tag.result c.source_tag.ensures c.read.ensures c.in_err-byte.was)

pub returns-then-not-c : goal.returns-then-not-c
returns-then-not-c c =
    let a = c.args in
    through_plain a.c _ a.at c.read.result c.source_tag.result c.source_tag.ensures c.read.ensures c.in_ok-byte.byte c.in_ok-byte.was (not-true _ c.if-not-c.true)

pub returns : goal.returns
returns c =
    let a = c.args in
    through-entry a.c _ a.at c.read.result c.source_tag.result c.source_tag.ensures c.read.ensures c.in_ok-byte.byte c.in_ok-byte.was (not-false _ c.if-not-c.false) c.read-2.result c.sum20.result c.sum20.ensures c.read-2.ensures
