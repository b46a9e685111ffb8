-- `trace_text::trace` meets its contract.
-- Assumes nothing.
use Prim.Native.Nat.{◌≤◌}
use borrow.Author.Tests.{le-leb, lt-leb}
use lib.ListN.{length}
use mathlib.Core.Path.{◌≡◌, sym, ap, ◌∙◌}
use native.Mathlib.Omega.{arith}
use Rattle.ground_rules.specs.declared.Made.{Made}
use Rattle.ground_rules.specs.Refusals.{answered}
use Rattle.ground_rules.specs.States.{fresh_of}
use Rattle.attention_rules.specs.Attention.{attention_of}
use Rattle.page.specs.Pages.{page, written}
use Rattle.page.proofs.PageLaws.{printed}
use Rattle.run_rules.specs.Run.{Run, attended_run}
use Rattle.trace_text.specs.Line.{end_line}
use Rattle.trace_text.specs.Trace.{attended_text, traced_memory, trace_of, traced_run}
use Rattle.trace_text.proofs.TextLaws.{trace-short}
use Rattle.trace_text.proofs.TraceLaws.{run-attended}
use Rattle.trace_text.proofs.trace.Goals as goal

pub returns-then-input-gt4096 : goal.returns-then-input-gt4096
unfolding trace_of traced_run
returns-then-input-gt4096 c =
    let a = c.args in
    let last = c.end_line in
    let long = lt-leb (length a.input.now) 4096 c.if-input-gt4096.true in
    let ended : end_line 11 0 ≡ trace_of a.input.now = rw long in record {
      printed = printed a.out.now _ _ (trace_of a.input.now) (omega (arith, trace-short a.input.now)) (ap (page _) last.ensures.run.2 ∙ last.ensures.behind ∙ ap (written (page a.out.now 0)) ended);
      number_value = (ap answered last.ensures.run.0 ∙ rw long, last.ensures.run.1 ∙ rw long, rw long);
    }

pub returns : goal.returns
unfolding trace_of
returns c =
    let a = c.args in
    let fits : length a.input.now ≤ 4096 = omega arith in
    let e = c.fresh-fresh.ensures in
    let r = c.attended in
    let run = r.ensures.io_value ∙ ap (λ (f : Made). attended_run (attention_of f.state (traced_memory a.input.now) 1) 0 1000) e ∙ sym (run-attended a.input.now fits) in
    let text : attended_text (attention_of (fresh_of 0).state (traced_memory a.input.now) 1) ≡ trace_of a.input.now = rw (le-leb (length a.input.now) 4096 fits) in
    let all = ap (λ (f : Made). attended_text (attention_of f.state (traced_memory a.input.now) 1)) e ∙ text in record {
      printed = printed a.out.now _ _ (trace_of a.input.now) (omega (arith, trace-short a.input.now)) (ap (page _) r.ensures.count ∙ r.ensures.behind ∙ ap (written (page a.out.now 0)) all);
      number_value = (ap (λ (x : Run). x.number) run, ap (λ (x : Run). x.steps) run, ap (λ (x : Run). x.memory.sys) run);
    }
