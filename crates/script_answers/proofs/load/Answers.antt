-- `script_answers::load` meets its contract.
-- Assumes nothing.
use mathlib.Core.Path.{sym, ap, ◌∙◌}
use Rattle.page.specs.Pages.{sheet, written}
use Rattle.prom_rules.specs.Load.{Loading}
use Rattle.script_answers.specs.Shown.{load_text}
use Rattle.script_answers.proofs.load.Goals as goal

pub returns-in-Ok : goal.returns-in-Ok
unfolding load_text
returns-in-Ok c =
    let e = rw c.in-Ok.is at c.load.ensures in
    record { sys_after = ap (λ (l : Loading). l.memory.sys) e; same = c.loaded_line.ensures.same; behind = c.loaded_line.ensures.put ∙ ap (λ (l : Loading). written (sheet c.args.page.now) (load_text l)) e }

pub returns-in-Err : goal.returns-in-Err
unfolding load_text
returns-in-Err c =
    let e = rw (c.in-Err.is, sym c.number.ensures) at c.load.ensures in
    record { sys_after = ap (λ (l : Loading). l.memory.sys) e; same = c.loaded_line-in-Err.ensures.same; behind = c.loaded_line-in-Err.ensures.put ∙ ap (λ (l : Loading). written (sheet c.args.page.now) (load_text l)) e }
