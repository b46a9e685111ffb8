-- `script_answers::sweep_channel` meets its contract.
-- Assumes nothing.
use Prim.Native.Nat.{ℕ}
use mathlib.Core.Path.{ap, ◌∙◌}
use Rattle.page.specs.Pages.{sheet, written}
use Rattle.sweep_rules.specs.Sweep.{Sweep}
use Rattle.script_lines.specs.Lines.{swept_line}
use Rattle.script_answers.specs.Machine.{machine, machine_swept}
use Rattle.script_answers.specs.Shown.{sweep_text}
use Rattle.script_answers.proofs.sweep_channel.Goals as goal

pub returns-in-Ok : goal.returns-in-Ok
unfolding machine_swept sweep_text
returns-in-Ok c =
    let left = c.in-Ok.ensures in record {
      io_value = ap (λ (o : Sweep). machine o.state o.memory) left;
      same = c.swept_line.ensures.same;
      behind = c.swept_line.ensures.put ∙ ap (λ (o : Sweep). written (sheet c.args.page.now) (swept_line o.number o.steps o.count)) left;
    }

pub returns-in-Err : goal.returns-in-Err
unfolding machine_swept sweep_text
returns-in-Err c =
    let left = c.in-Err.ensures in record {
      io_value = ap (λ (o : Sweep). machine o.state o.memory) left;
      same = c.swept_line-in-Err.ensures.same;
      behind = c.swept_line-in-Err.ensures.put
          ∙ ap (λ (n : ℕ). written (sheet c.args.page.now) (swept_line n 0 0)) c.number.ensures
          ∙ ap (λ (o : Sweep). written (sheet c.args.page.now) (swept_line o.number o.steps o.count)) left;
    }
