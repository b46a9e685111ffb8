-- `touch_calls::iop89_touches_sweep` meets its contract.
-- Assumes nothing.
use Rattle.state_rules.proofs.CallLaws.{state-length}
use Rattle.state_rules.specs.Calls.{answer_from}
use Rattle.state_rules.specs.Layout.{is_state}
use Rattle.sweep_rules.proofs.PassedLaws.{number_is}
use Rattle.touch_rules.specs.TouchCalls.{telling, told_as, touches_sweep}
use Rattle.touches.specs.Tales.{Foreseen}
use borrow.Author.Tests.{not-true, not-false}
use mathlib.Core.Bool.{true}
use mathlib.Core.Path.{◌≡◌, sym, ap, ◌∙◌}
use Rattle.touch_calls.proofs.iop89_touches_sweep.Goals as goal

pub returns-then-not-is_state : goal.returns-then-not-is_state
unfolding touches_sweep
returns-then-not-is_state c = rw (c.number.ensures, sym c.is_state.ensures ∙ not-true _ c.if-not-is_state.true-raw)

pub state_in-s-requires : goal.state_in-s-requires
state_in-s-requires c = state-length _ (sym c.is_state.ensures ∙ not-false _ c.if-not-is_state.false-raw)

pub returns : goal.returns
unfolding touches_sweep told_as
returns c =
    let a = c.args in
    let is : is_state a.state.now ≡ true = sym c.is_state.ensures ∙ not-false _ c.if-not-is_state.false-raw in
    rw (c.plain.ensures, is, number_is)
    (ap (λ (f : Foreseen). telling (answer_from f.number 0 0 f.count) f.words) (simp c.state_in-s.ensures at c.sweep.ensures))
