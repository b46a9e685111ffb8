-- `trace_text::steps` meets its contract.
-- Assumes nothing.
use Prim.Native.Nat.{ℕ, ◌+◌, ◌-◌}
use mathlib.Core.List.{◌++◌}
use mathlib.Core.Path.{◌≡◌, sym, ap, ◌∙◌}
use native.Mathlib.Omega.{arith}
use Rattle.ground_rules.proofs.RefusalLaws.{number-positive}
use Rattle.ground_rules.specs.Buffers.{buffers}
use Rattle.turn_rules.specs.Step.{Step, step_of}
use Rattle.page.specs.Pages.{PageBytes, sheet, written}
use Rattle.page.proofs.PageLaws.{written_both}
use Rattle.run_rules.specs.Run.{ran, steps_from}
use Rattle.run_rules.proofs.RunLaws.{stops, goes, limits}
use Rattle.trace_text.specs.Line.{step_line, end_line}
use Rattle.trace_text.specs.Trace.{steps_text}
use Rattle.trace_text.proofs.TextLaws.{refused-text, done-text, limit-text}
use Rattle.trace_text.proofs.steps.Goals as goal

pub returns-in-Err : goal.returns-in-Err
returns-in-Err c =
    let l = c.loop-done in
    let m = buffers l.sys l.io in
    let e = c.in-Err.ensures.left in
    let last = c.end_line in
    let refused : (step_of l.state m 0).number ≡ 0 → ⊥ = λ z. number-positive c.in-Err.refusal (ap (λ (o : Step). o.number) e ∙ z) in record {
      behind =
          last.ensures.behind
          ∙ ap (λ (o : Step). written (sheet l.page) (end_line o.number l.done)) e
          ∙ ap (written (sheet l.page)) (sym (refused-text (1000 - l.done) l.state m l.done (omega arith) refused))
          ∙ l.invariant.text;
      same = last.ensures.same ∙ l.invariant.same;
      count = last.ensures.run.2;
      io_value = rw (last.ensures.run.0, last.ensures.run.1) (ap (λ (o : Step). ran o.number l.done o.memory) e
          ∙ sym (stops (1000 - l.done) l.state m 0 l.done (omega arith) refused)
          ∙ l.invariant.run);
    }

pub loop-done-preserved : goal.loop-done-preserved
unfolding step_line
loop-done-preserved c =
    let l = c.loop-done in
    let m = buffers l.sys l.io in
    let went = c.step in
    let after = c.in-Ok.step.state in
    let e = c.in-Ok.ensures.left in
    let o = step_of l.state m 0 in
    let done : o.number ≡ 0 = sym (ap (λ (x : Step). x.number) e) in
    let left : 1000 - (l.done + 1) ≡ 1000 - l.done - 1 = omega arith in record {
      text = ap (λ (p : PageBytes). written p (steps_text (1000 - (l.done + 1)) after (buffers went.new.sys went.new.io) (l.done + 1))) c.step_line.ensures.behind
          ∙ sym (written_both (sheet l.page) _ _)
          ∙ ap (λ (x : Step). written (sheet l.page) (step_line (l.done + 1) x ++ steps_text (1000 - (l.done + 1)) x.state x.memory (l.done + 1))) e
          ∙ ap (λ (n : ℕ). written (sheet l.page) (step_line (l.done + 1) o ++ steps_text n o.state o.memory (l.done + 1))) left
          ∙ ap (written (sheet l.page)) (sym (done-text (1000 - l.done) l.state m l.done (omega arith) done))
          ∙ l.invariant.text;
      same = c.step_line.ensures.same ∙ l.invariant.same;
      run = ap (λ (x : Step). steps_from (1000 - (l.done + 1)) x.state x.memory 0 (l.done + 1)) e
          ∙ ap (λ (n : ℕ). steps_from n o.state o.memory 0 (l.done + 1)) left
          ∙ sym (goes (1000 - l.done) l.state m 0 l.done (omega arith) done)
          ∙ l.invariant.run;
    }

pub returns : goal.returns
returns c =
    let l = c.loop-done in
    let m = buffers l.sys l.io in
    let last = c.end_line-2 in
    let end : 1000 ≡ l.done = omega arith in
    let none : 1000 - l.done ≡ 0 = omega arith in record {
      behind = last.ensures.behind ∙ ap (λ (n : ℕ). written (sheet l.page) (end_line 0 n)) end ∙ ap (written (sheet l.page)) (sym (limit-text (1000 - l.done) l.state m l.done none)) ∙ l.invariant.text;
      same = last.ensures.same ∙ l.invariant.same;
      count = last.ensures.run.2;
      io_value = rw (last.ensures.run.0, last.ensures.run.1) (ap (λ (n : ℕ). ran 0 n m) end ∙ sym (limits (1000 - l.done) l.state m 0 l.done none) ∙ l.invariant.run);
    }
