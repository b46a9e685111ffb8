-- `touches::orders::power` meets its contract.
-- Assumes nothing.
use Rattle.std.proofs.Common.{rules}
use Rattle.attention_rules.specs.Power.{sysbus_place, configuration_place, configuration_of, control_place, control_of, power_stages}
use Rattle.ground_rules.specs.Buffers.{buffers}
use Rattle.ground_rules.specs.Places.{span}
use Rattle.ground_rules.specs.Stages.{stages_number}
use Rattle.ground_rules.specs.States.{busy_in}
use Rattle.touch_rules.specs.Told.{told_in_stages}
use Rattle.touches.proofs.CallLaws.{power-whole}
use Rattle.touches.proofs.TaleLaws.{two-told, told-from}
use Rattle.touches.specs.Tales.{tale, untold, told_on, all_as, foreseen, foretold, ended_at}
use mathlib.Core.Bool.{true, false}
use mathlib.Core.List.{◌++◌}
use mathlib.Core.Path.{◌≡◌, ap, ◌∙◌}
use Rattle.touches.proofs.orders.power.Goals as goal

pub returns : goal.returns
returns c =
    let a = c.args in
    let m = buffers a.sys.now a.io.now in
    let x = untold a.places.now in
    let p₁ = span false sysbus_place 1 in
    let p₂ = span false configuration_place 4 in
    let p₃ = span false (configuration_of m) 1 in
    let p₄ = span false (control_place m) 4 in
    let p₅ = span false (busy_in (control_of m)) 1 in
    let l₀ = c.new-teller.ensures.lent in
    let l₁ = c.span.ensures.lent ∙ l₀ in
    let l₂ = c.span-2.ensures.lent ∙ l₁ in
    let l₃ = c.span-3.ensures.lent ∙ l₂ in
    let l₄ = c.span-4.ensures.lent ∙ l₃ in
    let s₁ : tale c.span.new.self ≡ told_on m (all_as false p₁) x = told-from m _ _ c.new-teller.result c.span.new.self l₀ c.new-teller.ensures.told (simp c.system.ensures at c.span.ensures.told) in
    let s₂ : tale c.span-2.new.self ≡ told_on m (all_as false p₂) (told_on m (all_as false p₁) x) = told-from m _ _ c.span.new.self c.span-2.new.self l₁ s₁ (simp c.system-2.ensures at c.span-2.ensures.told) in
    let s₃ : tale c.span-3.new.self ≡ told_on m (all_as false p₃) (told_on m (all_as false p₂) (told_on m (all_as false p₁) x)) = told-from m _ _ c.span-2.new.self c.span-3.new.self l₂ s₂ (simp (c.system-3.ensures, c.configuration-configuration.ensures) at c.span-3.ensures.told) in
    let s₄ : tale c.span-4.new.self ≡ told_on m (all_as false p₄) (told_on m (all_as false p₃) (told_on m (all_as false p₂) (told_on m (all_as false p₁) x)))
    = told-from m _ _ c.span-3.new.self c.span-4.new.self l₃ s₃ (simp (c.system-4.ensures, c.sum20.ensures, c.configuration-configuration.ensures) at c.span-4.ensures.told) in
    let read = s₄ ∙ two-told m false p₃ p₄ (told_on m (all_as false p₂) (told_on m (all_as false p₁) x)) ∙ two-told m false p₂ (p₃ ++ p₄) (told_on m (all_as false p₁) x) ∙ two-told m false p₁ (p₂ ++ (p₃ ++ p₄)) x in
    let s₅ : tale c.span-5.new.self ≡ told_on m (all_as true p₅) (told_on m (all_as false (p₁ ++ (p₂ ++ (p₃ ++ p₄)))) x)
    = told-from m _ _ c.span-4.new.self c.span-5.new.self l₄ read (simp (c.system-5.ensures, c.busy.ensures, c.control-control.ensures) at c.span-5.ensures.told) in
    let whole : foreseen c.ended.result c.span-5.new.self.places.now ≡ foretold (stages_number m (power_stages m)) (told_in_stages m (power_stages m) p₅) a.places.now
    = c.ended.ensures ∙ ap ended_at s₅ ∙ power-whole m a.places.now in
    search rules
