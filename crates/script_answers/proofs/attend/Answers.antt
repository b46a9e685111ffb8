-- `script_answers::attend` meets its contract.
-- Assumes nothing.
use Prim.Native.Nat.{ℕ}
use mathlib.Core.Path.{ap, ap₂, ◌∙◌}
use Rattle.ground_rules.specs.Outcomes.{Outcome}
use Rattle.listing_rules.specs.Characters.{ascii}
use Rattle.page.specs.Pages.{sheet, written}
use Rattle.script_lines.specs.Lines.{counted_line}
use Rattle.script_answers.specs.Machine.{machine, machine_attended}
use Rattle.script_answers.proofs.attend.Goals as goal

pub returns-in-Ok : goal.returns-in-Ok
unfolding machine_attended
returns-in-Ok c =
    let left = c.in-Ok.ensures.left in record {
      io_value = ap (λ (o : Outcome). machine o.state o.memory) left;
      same = c.counted_line.ensures.same;
      behind = c.counted_line.ensures.put ∙ ap₂ (λ (o : Outcome) (k : ℕ). written (sheet c.args.page.now) (counted_line (ascii "ca ") o.number k)) left c.in-Ok.ensures.count;
    }

pub returns-in-Err : goal.returns-in-Err
unfolding machine_attended
returns-in-Err c =
    let left = c.in-Err.ensures.left in record {
      io_value = ap (λ (o : Outcome). machine o.state o.memory) left;
      same = c.counted_line-in-Err.ensures.same;
      behind = c.counted_line-in-Err.ensures.put
          ∙ ap (λ (n : ℕ). written (sheet c.args.page.now) (counted_line (ascii "ca ") n 0)) c.number.ensures
          ∙ ap₂ (λ (o : Outcome) (k : ℕ). written (sheet c.args.page.now) (counted_line (ascii "ca ") o.number k)) left c.in-Err.ensures.count;
    }
