-- `script_answers::advance` meets its contract.
-- Assumes nothing.
use Prim.Native.Nat.{ℕ}
use mathlib.Core.Path.{ap, ap₂, ◌∙◌}
use Rattle.page.specs.Pages.{sheet, written}
use Rattle.turn_rules.specs.Step.{Step}
use Rattle.turn_rules.specs.declared.Kind.TheVariants.{Nothing}
use Rattle.script_lines.specs.Lines.{stepped_line}
use Rattle.script_answers.specs.Machine.{machine, machine_advanced}
use Rattle.script_answers.specs.Shown.{advanced_line}
use Rattle.script_answers.proofs.advance.Goals as goal

pub returns-in-Ok : goal.returns-in-Ok
unfolding machine_advanced advanced_line
returns-in-Ok c =
    let left = c.in-Ok.ensures.left in record {
      io_value = ap (λ (o : Step). machine o.state o.memory) left;
      same = c.stepped_line.ensures.same;
      behind = c.stepped_line.ensures.put ∙ ap₂ (λ (o : Step) (k : ℕ). written (sheet c.args.page.now) (stepped_line o.number o.channel o.kind k)) left c.in-Ok.ensures.count;
    }

pub returns-in-Err : goal.returns-in-Err
unfolding machine_advanced advanced_line
returns-in-Err c =
    let left = c.in-Err.ensures.left in record {
      io_value = ap (λ (o : Step). machine o.state o.memory) left;
      same = c.stepped_line-in-Err.ensures.same;
      behind = c.stepped_line-in-Err.ensures.put
          ∙ ap (λ (n : ℕ). written (sheet c.args.page.now) (stepped_line n 0 Nothing 0)) c.number.ensures
          ∙ ap₂ (λ (o : Step) (k : ℕ). written (sheet c.args.page.now) (stepped_line o.number o.channel o.kind k)) left c.in-Err.ensures.count;
    }
