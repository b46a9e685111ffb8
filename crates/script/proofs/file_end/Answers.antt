-- `script::file_end` meets its contract.
-- Assumes nothing.
use mathlib.Core.Path.{sym, ◌∙◌}
use native.Mathlib.Omega.{arith}
use lib.ListN.{length}
use mathlib.Core.Path.{◌≡◌}
use Rattle.script.specs.Lines.{file_end}
use Rattle.script.proofs.FileLaws.{file-here, file-next, file-over}
use Rattle.script.proofs.file_end.Goals as goal

pub returns-then-closes_file : goal.returns-then-closes_file
unfolding file_end
returns-then-closes_file c =
    let l = c.loop-i in
    let text = c.args.text.now in
    record { value = sym (file-here text l.i l.start c.loop-i-test.true (sym c.closes_file.ensures ∙ c.if-closes_file.true)) ∙ l.invariant; lower_bound = (omega arith, omega arith) }

pub loop-i-preserved : goal.loop-i-preserved
loop-i-preserved c =
    let l = c.loop-i in
    let text = c.args.text.now in
    sym (file-next text l.i l.start c.loop-i-test.true (sym c.closes_file.ensures ∙ c.if-closes_file.false)) ∙ l.invariant

pub returns : goal.returns
unfolding file_end
returns c =
    let l = c.loop-i in
    let text = c.args.text.now in
    let over : length text ≡ l.i = omega arith in
    record { value = over ∙ sym (file-over text l.i l.start c.loop-i-test.false) ∙ l.invariant; lower_bound = (omega arith, omega arith) }
