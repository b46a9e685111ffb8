-- `touches::instructions::operands_told` meets its contract.
-- Assumes nothing.
use mathlib.Core.Bool.{true, false}
use mathlib.Core.Path.{ap, ◌∙◌}
use Rattle.instruction_rules.specs.Operands.{bytes_at}
use Rattle.touches.specs.Tales.{tale, lent_to, told_on, all_as}
use Rattle.touches.proofs.TaleLaws.{two-told, told-from}
use Rattle.touches.proofs.instructions.operands_told.Goals as goal

pub returns-clause-told : goal.returns-clause-told
returns-clause-told c =
    let m = lent_to c.args.teller.now in
    let x = tale c.args.teller.now in
    let d = c.args.a in
    let l = c.span.ensures.lent in
    let s = told-from m _ _ c.span.new.self c.span-2.new.self l c.span.ensures.told c.span-2.ensures.told in
    told-from m _ _ c.span-2.new.self c.span-3.new.self (c.span-2.ensures.lent ∙ l) s c.span-3.ensures.told
    ∙ ap (told_on m (all_as true (bytes_at d.to d.stores))) (two-told m false (bytes_at d.at d.offsets) (bytes_at d.from d.reads) x)
