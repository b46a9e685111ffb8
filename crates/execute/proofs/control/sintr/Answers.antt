-- `execute::control::sintr` meets its contract.
-- Assumes nothing.
use Rattle.std.proofs.Common.{sym, ◌∙◌}
use Rattle.execute.proofs.ControlWorks.{works-sintr}
use borrow.Author.Tests.{not-true, not-false}
use Rattle.execute.proofs.control.sintr.Goals as goal

pub returns-then-not-interrupt_control : goal.returns-then-not-interrupt_control
returns-then-not-interrupt_control c = λ busy m ch. rw c.past.ensures (works-sintr c.args.f m ch busy _ (simp (sym c.interrupt_control.ensures ∙ not-true _ c.if-not-interrupt_control.true-raw)))

pub returns : goal.returns
returns c = λ busy m ch. rw c.past-2.ensures (works-sintr c.args.f m ch busy _ (simp (c.with.ensures, sym c.interrupt_control.ensures ∙ not-false _ c.if-not-interrupt_control.false-raw)))
