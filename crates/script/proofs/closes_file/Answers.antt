-- `script::closes_file` meets its contract.
-- Assumes nothing.
use borrow.Author.Tests.{not-true, not-false}
use mathlib.Core.Path.{◌≡◌, ap, ◌∙◌}
use native.Mathlib.Omega.{arith}
use Prim.Native.Nat.{◌-◌, ◌+◌, ◌≤◌}
use lib.ListN.{length}
use Rattle.script.proofs.FileLaws.{spells_here}
use Rattle.script.specs.Lines.{content_end, line_content, closes_file}
use Rattle.script.proofs.closes_file.Goals as goal

pub returns-then-not-start : goal.returns-then-not-start
returns-then-not-start c = rw (not-true c.args.start c.if-not-start.true-raw)

pub returns : goal.returns
unfolding closes_file
returns c =
    let a = c.args in
    let e : c.content_end-content.result ≡ line_content a.text.now a.at = c.content_end-content.ensures.value ∙ ap (content_end a.text.now a.at) c.line_end-end.ensures.value in
    let inside : a.at + (c.content_end-content.result - a.at) ≤ length a.text.now = omega (arith, c.content_end-content.ensures.lower_bound.0, c.content_end-content.ensures.lower_bound.1, c.line_end-end.ensures.lower_bound.1) in
    rw (not-false a.start c.if-not-start.false-raw, ← e) (c.eq.ensures ∙ rw c.as_slice.ensures (spells_here a.text.now a.at (c.content_end-content.result - a.at) inside))
