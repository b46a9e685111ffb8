-- `script_answers::perform` meets its contract: the text of the call has room in the buffer, so it stands whole.
-- Assumes nothing.
use native.Mathlib.Omega.{arith}
use Rattle.ground_rules.specs.Buffers.{buffers}
use Rattle.page.proofs.PageLaws.{printed}
use Rattle.script_answers.specs.Shown.{call_text}
use Rattle.script_answers.proofs.TextLaws.{call-short}
use Rattle.script_answers.proofs.perform.Goals as goal

pub returns-clause-printed : goal.returns-clause-printed
returns-clause-printed c =
    let a = c.args in
    let m = buffers a.sys.now a.io.now in
    printed a.out.now _ _ (call_text a.call a.line.now a.state.now m) (omega (arith, call-short a.call a.line.now a.state.now m)) c.answer-made.ensures.behind
