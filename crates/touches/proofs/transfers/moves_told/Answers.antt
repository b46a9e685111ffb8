-- `touches::transfers::moves_told` meets its contract.
-- Assumes nothing.
use Rattle.instruction_rules.specs.Operands.{bytes_at}
use Rattle.touches.proofs.TaleLaws.{two-told, told-from}
use Rattle.touches.specs.Tales.{tale, lent_to, told_on, all_as}
use mathlib.Core.Bool.{true, false}
use mathlib.Core.List.{◌++◌}
use mathlib.Core.Path.{◌∙◌}
use Rattle.touches.proofs.transfers.moves_told.Goals as goal

pub returns-clause-told : goal.returns-clause-told
returns-clause-told c =
    let m = lent_to c.args.teller.now in
    let x = tale c.args.teller.now in
    let v = c.args.m in
    let p₁ = bytes_at v.from v.spots.first in
    let p₂ = bytes_at v.next v.spots.second in
    let p₃ = bytes_at v.entry v.spots.entry in
    let p₄ = bytes_at v.into v.spots.into in
    let p₅ = bytes_at v.behind v.spots.behind in
    let l₁ = c.span.ensures.lent in
    let l₂ = c.span-2.ensures.lent ∙ l₁ in
    let l₃ = c.span-3.ensures.lent ∙ l₂ in
    let l₄ = c.span-4.ensures.lent ∙ l₃ in
    let s₂ = told-from m _ _ c.span.new.self c.span-2.new.self l₁ c.span.ensures.told c.span-2.ensures.told in
    let s₃ = told-from m _ _ c.span-2.new.self c.span-3.new.self l₂ s₂ c.span-3.ensures.told in
    let read = s₃ ∙ two-told m false p₂ p₃ (told_on m (all_as false p₁) x) ∙ two-told m false p₁ (p₂ ++ p₃) x in
    let s₄ = told-from m _ _ c.span-3.new.self c.span-4.new.self l₃ read c.span-4.ensures.told in
    told-from m _ _ c.span-4.new.self c.span-5.new.self l₄ s₄ c.span-5.ensures.told
    ∙ two-told m true p₄ p₅ (told_on m (all_as false (p₁ ++ (p₂ ++ p₃))) x)
