-- `script_answers::answer` meets its contract.
-- Assumes nothing.
use Prim.Native.Nat.{ℕ}
use Rattle.std.proofs.Common.{Ok, Err}
use mathlib.Core.Bool.{Bool}
use mathlib.Core.List.{List}
use mathlib.Core.Path.{refl, sym, ap, ◌∙◌}
use Rattle.ground_rules.specs.Buffers.{buffers}
use Rattle.ground_rules.specs.Choice.{pick}
use Rattle.page.specs.Pages.{sheet, written}
use Rattle.page.proofs.PageLaws.{nothing_written}
use Rattle.script_text.specs.declared.text.ScriptCall.{ScriptCall}
use Rattle.script_lines.specs.Lines.{shown_line}
use Rattle.script_answers.specs.declared.NotMade.TheVariants.{PastTheEnd, NoPart}
use Rattle.script_answers.specs.Machine.{machine, is_part, machine_loaded, call_performed, call_made, not_made}
use Rattle.script_answers.specs.Shown.{put_line, listed_text, call_text}
use Rattle.script_answers.proofs.answer.Goals as goal

pub returns-in-Nothing : goal.returns-in-Nothing
unfolding call_performed call_made not_made call_text
returns-in-Nothing c =
    let a = c.args in
    let state = a.state.now in
    let line = a.line.now in
    let m = buffers a.sys.now a.io.now in
    let is = c.in-Nothing.is in
    let after = ap (λ (x : ScriptCall). call_performed x line state m) (sym is) in
    let told = ap (λ (x : ScriptCall). pick (call_made x line m) (Ok tt) (Err (not_made x))) (sym is) in
    let text = ap (λ (x : ScriptCall). written (sheet a.page.now) (call_text x line state m)) (sym is) in
    record { io_value = after; why = told; same = refl; behind = sym (nothing_written (sheet a.page.now)) ∙ text }

pub returns-in-Unknown : goal.returns-in-Unknown
unfolding call_performed call_made not_made call_text
returns-in-Unknown c =
    let a = c.args in
    let state = a.state.now in
    let line = a.line.now in
    let m = buffers a.sys.now a.io.now in
    let is = c.in-Unknown.is in
    let after = ap (λ (x : ScriptCall). call_performed x line state m) (sym is) in
    let told = ap (λ (x : ScriptCall). pick (call_made x line m) (Ok tt) (Err (not_made x))) (sym is) in
    let text = ap (λ (x : ScriptCall). written (sheet a.page.now) (call_text x line state m)) (sym is) in
    record { io_value = after; why = c.refused.ensures.why ∙ told; same = c.refused.ensures.same; behind = c.refused.ensures.line ∙ text }

pub returns-in-Make : goal.returns-in-Make
unfolding call_performed call_made not_made call_text
returns-in-Make c =
    let a = c.args in
    let state = a.state.now in
    let line = a.line.now in
    let m = buffers a.sys.now a.io.now in
    let is = c.in-Make.is in
    let after = ap (λ (x : ScriptCall). call_performed x line state m) (sym is) in
    let told = ap (λ (x : ScriptCall). pick (call_made x line m) (Ok tt) (Err (not_made x))) (sym is) in
    let text = ap (λ (x : ScriptCall). written (sheet a.page.now) (call_text x line state m)) (sym is) in
    record { io_value = c.make.ensures.io_value ∙ after; why = told; same = c.make.ensures.same; behind = c.make.ensures.behind ∙ text }

pub returns-in-Put : goal.returns-in-Put
unfolding call_performed call_made not_made call_text
returns-in-Put c =
    let a = c.args in
    let state = a.state.now in
    let line = a.line.now in
    let m = buffers a.sys.now a.io.now in
    let is = c.in-Put.is in
    let after = ap (λ (x : ScriptCall). call_performed x line state m) (sym is) in
    let told = ap (λ (x : ScriptCall). pick (call_made x line m) (Ok tt) (Err (not_made x))) (sym is) in
    let text = ap (λ (x : ScriptCall). written (sheet a.page.now) (call_text x line state m)) (sym is) in
    record { io_value = ap (machine state) c.put-made.ensures.io_value ∙ after; why = c.put_line.ensures.why ∙ ap (λ (t : Bool). pick t (Ok tt) (Err PastTheEnd)) c.put-made.ensures.value ∙ told; same = c.put_line.ensures.same; behind = c.put_line.ensures.behind ∙ ap (λ (t : Bool). written (sheet a.page.now) (put_line t)) c.put-made.ensures.value ∙ text }

pub returns-in-Set : goal.returns-in-Set
unfolding call_performed call_made not_made call_text
returns-in-Set c =
    let a = c.args in
    let state = a.state.now in
    let line = a.line.now in
    let m = buffers a.sys.now a.io.now in
    let is = c.in-Set.is in
    let after = ap (λ (x : ScriptCall). call_performed x line state m) (sym is) in
    let told = ap (λ (x : ScriptCall). pick (call_made x line m) (Ok tt) (Err (not_made x))) (sym is) in
    let text = ap (λ (x : ScriptCall). written (sheet a.page.now) (call_text x line state m)) (sym is) in
    record { io_value = rw c.with_register.ensures after; why = told; same = c.answer_line.ensures.same; behind = c.answer_line.ensures.put ∙ text }

pub returns-in-Attention : goal.returns-in-Attention
unfolding call_performed call_made not_made call_text
returns-in-Attention c =
    let a = c.args in
    let state = a.state.now in
    let line = a.line.now in
    let m = buffers a.sys.now a.io.now in
    let is = c.in-Attention.is in
    let after = ap (λ (x : ScriptCall). call_performed x line state m) (sym is) in
    let told = ap (λ (x : ScriptCall). pick (call_made x line m) (Ok tt) (Err (not_made x))) (sym is) in
    let text = ap (λ (x : ScriptCall). written (sheet a.page.now) (call_text x line state m)) (sym is) in
    record { io_value = c.attend.ensures.io_value ∙ after; why = told; same = c.attend.ensures.same; behind = c.attend.ensures.behind ∙ text }

pub returns-in-Step : goal.returns-in-Step
unfolding call_performed call_made not_made call_text
returns-in-Step c =
    let a = c.args in
    let state = a.state.now in
    let line = a.line.now in
    let m = buffers a.sys.now a.io.now in
    let is = c.in-Step.is in
    let after = ap (λ (x : ScriptCall). call_performed x line state m) (sym is) in
    let told = ap (λ (x : ScriptCall). pick (call_made x line m) (Ok tt) (Err (not_made x))) (sym is) in
    let text = ap (λ (x : ScriptCall). written (sheet a.page.now) (call_text x line state m)) (sym is) in
    record { io_value = c.advance.ensures.io_value ∙ after; why = told; same = c.advance.ensures.same; behind = c.advance.ensures.behind ∙ text }

pub returns-in-Dump : goal.returns-in-Dump
unfolding call_performed call_made not_made call_text
returns-in-Dump c =
    let a = c.args in
    let state = a.state.now in
    let line = a.line.now in
    let m = buffers a.sys.now a.io.now in
    let is = c.in-Dump.is in
    let after = ap (λ (x : ScriptCall). call_performed x line state m) (sym is) in
    let told = ap (λ (x : ScriptCall). pick (call_made x line m) (Ok tt) (Err (not_made x))) (sym is) in
    let text = ap (λ (x : ScriptCall). written (sheet a.page.now) (call_text x line state m)) (sym is) in
    record { io_value = after; why = told; same = c.dump.ensures.same; behind = c.dump.ensures.put ∙ text }

pub returns-in-Show : goal.returns-in-Show
unfolding call_performed call_made not_made call_text
returns-in-Show c =
    let a = c.args in
    let state = a.state.now in
    let line = a.line.now in
    let m = buffers a.sys.now a.io.now in
    let is = c.in-Show.is in
    let after = ap (λ (x : ScriptCall). call_performed x line state m) (sym is) in
    let told = ap (λ (x : ScriptCall). pick (call_made x line m) (Ok tt) (Err (not_made x))) (sym is) in
    let text = ap (λ (x : ScriptCall). written (sheet a.page.now) (call_text x line state m)) (sym is) in
    record { io_value = after; why = told; same = c.shown_line.ensures.same; behind = c.shown_line.ensures.put ∙ ap (λ (l : List ℕ). written (sheet a.page.now) (shown_line l c.in-Show.address)) c.chosen.ensures ∙ text }

pub returns-in-Listing : goal.returns-in-Listing
unfolding call_performed call_made not_made call_text
returns-in-Listing c =
    let a = c.args in
    let state = a.state.now in
    let line = a.line.now in
    let m = buffers a.sys.now a.io.now in
    let is = c.in-Listing.is in
    let after = ap (λ (x : ScriptCall). call_performed x line state m) (sym is) in
    let told = ap (λ (x : ScriptCall). pick (call_made x line m) (Ok tt) (Err (not_made x))) (sym is) in
    let text = ap (λ (x : ScriptCall). written (sheet a.page.now) (call_text x line state m)) (sym is) in
    record { io_value = after; why = c.list.ensures.why ∙ ap (λ (l : List ℕ). pick (is_part l c.in-Listing.address c.in-Listing.count) (Ok tt) (Err NoPart)) c.chosen-in-Listing.ensures ∙ told; same = c.list.ensures.same; behind = c.list.ensures.behind ∙ ap (λ (l : List ℕ). written (sheet a.page.now) (listed_text l c.in-Listing.address c.in-Listing.count)) c.chosen-in-Listing.ensures ∙ text }

pub returns-in-Load : goal.returns-in-Load
unfolding call_performed call_made not_made call_text machine_loaded
returns-in-Load c =
    let a = c.args in
    let state = a.state.now in
    let line = a.line.now in
    let m = buffers a.sys.now a.io.now in
    let is = c.in-Load.is in
    let after = ap (λ (x : ScriptCall). call_performed x line state m) (sym is) in
    let told = ap (λ (x : ScriptCall). pick (call_made x line m) (Ok tt) (Err (not_made x))) (sym is) in
    let text = ap (λ (x : ScriptCall). written (sheet a.page.now) (call_text x line state m)) (sym is) in
    record { io_value = ap (λ (l : List ℕ). machine state (buffers l a.io.now)) c.load.ensures.sys_after ∙ after; why = told; same = c.load.ensures.same; behind = c.load.ensures.behind ∙ text }

pub returns-in-Reset : goal.returns-in-Reset
unfolding call_performed call_made not_made call_text
returns-in-Reset c =
    let a = c.args in
    let state = a.state.now in
    let line = a.line.now in
    let m = buffers a.sys.now a.io.now in
    let is = c.in-Reset.is in
    let after = ap (λ (x : ScriptCall). call_performed x line state m) (sym is) in
    let told = ap (λ (x : ScriptCall). pick (call_made x line m) (Ok tt) (Err (not_made x))) (sym is) in
    let text = ap (λ (x : ScriptCall). written (sheet a.page.now) (call_text x line state m)) (sym is) in
    record { io_value = rw c.reset.ensures after; why = told; same = c.answer_line-in-Reset.ensures.same; behind = c.answer_line-in-Reset.ensures.put ∙ text }

pub returns-in-PowerUp : goal.returns-in-PowerUp
unfolding call_performed call_made not_made call_text
returns-in-PowerUp c =
    let a = c.args in
    let state = a.state.now in
    let line = a.line.now in
    let m = buffers a.sys.now a.io.now in
    let is = c.in-PowerUp.is in
    let after = ap (λ (x : ScriptCall). call_performed x line state m) (sym is) in
    let told = ap (λ (x : ScriptCall). pick (call_made x line m) (Ok tt) (Err (not_made x))) (sym is) in
    let text = ap (λ (x : ScriptCall). written (sheet a.page.now) (call_text x line state m)) (sym is) in
    record { io_value = c.wake.ensures.io_value ∙ after; why = told; same = c.wake.ensures.same; behind = c.wake.ensures.behind ∙ text }

pub returns-in-Sweep : goal.returns-in-Sweep
unfolding call_performed call_made not_made call_text
returns-in-Sweep c =
    let a = c.args in
    let state = a.state.now in
    let line = a.line.now in
    let m = buffers a.sys.now a.io.now in
    let is = c.in-Sweep.is in
    let after = ap (λ (x : ScriptCall). call_performed x line state m) (sym is) in
    let told = ap (λ (x : ScriptCall). pick (call_made x line m) (Ok tt) (Err (not_made x))) (sym is) in
    let text = ap (λ (x : ScriptCall). written (sheet a.page.now) (call_text x line state m)) (sym is) in
    record { io_value = c.sweep_channel.ensures.io_value ∙ after; why = told; same = c.sweep_channel.ensures.same; behind = c.sweep_channel.ensures.behind ∙ text }
