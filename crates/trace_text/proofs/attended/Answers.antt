-- `trace_text::attended` meets its contract.
-- Assumes nothing.
use borrow.Author.Tests.{eq-eqb, ne_eqb}
use mathlib.Core.Path.{sym, ap, ◌∙◌}
use Rattle.ground_rules.proofs.RefusalLaws.{number-positive}
use Rattle.ground_rules.specs.Buffers.{buffers}
use Rattle.ground_rules.specs.Outcomes.{Outcome}
use Rattle.attention_rules.specs.Attention.{attention_of}
use Rattle.page.specs.Pages.{sheet, written}
use Rattle.run_rules.specs.Run.{ran, steps_from, attended_run}
use Rattle.trace_text.specs.Line.{end_line}
use Rattle.trace_text.specs.Trace.{steps_text, attended_text}
use Rattle.trace_text.proofs.attended.Goals as goal

pub returns-in-Ok : goal.returns-in-Ok
unfolding attended_text attended_run
returns-in-Ok c =
    let a = c.args in
    let o = attention_of a.s (buffers a.sys.now a.io.now) 1 in
    let e = c.in-Ok.ensures.left in
    let rest = c.steps in
    let accepted = eq-eqb o.number 0 (sym (ap (λ (x : Outcome). x.number) e)) in record {
      behind = rest.ensures.behind ∙ ap (λ (x : Outcome). written (sheet a.page.now) (steps_text 1000 x.state x.memory 0)) e ∙ rw accepted;
      same = rest.ensures.same;
      count = rest.ensures.count;
      io_value = rest.ensures.io_value ∙ ap (λ (x : Outcome). steps_from 1000 x.state x.memory 0 0) e ∙ rw accepted;
    }

pub returns-in-Err : goal.returns-in-Err
unfolding attended_text attended_run
returns-in-Err c =
    let a = c.args in
    let o = attention_of a.s (buffers a.sys.now a.io.now) 1 in
    let e = c.in-Err.ensures.left in
    let last = c.end_line in
    let refused = ne_eqb o.number 0 (λ z. number-positive c.in-Err.refusal (ap (λ (x : Outcome). x.number) e ∙ z)) in record {
      behind = last.ensures.behind ∙ ap (λ (x : Outcome). written (sheet a.page.now) (end_line x.number 0)) e ∙ rw refused;
      same = last.ensures.same;
      count = last.ensures.run.2;
      io_value = rw (last.ensures.run.0, last.ensures.run.1) (ap (λ (x : Outcome). ran x.number 0 x.memory) e ∙ rw refused);
    }
