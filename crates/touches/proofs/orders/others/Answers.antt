-- `touches::orders::others` meets its contract.
-- Assumes nothing.
use Rattle.attention_rules.specs.Blocks.{pointer_of}
use Rattle.attention_rules.specs.Touched.{read_by}
use Rattle.ground_rules.specs.Places.{Place, span}
use Rattle.ground_rules.specs.States.{busy_in}
use Rattle.touches.proofs.TaleLaws.{two-told, told-from}
use Rattle.touches.specs.Tales.{tale, lent_to, told_on, all_as}
use mathlib.Core.Bool.{true, false}
use mathlib.Core.List.{List, ◌++◌}
use mathlib.Core.Path.{◌≡◌, ap, ◌∙◌}
use Rattle.touches.proofs.orders.others.Goals as goal

pub returns-clause-told : goal.returns-clause-told
returns-clause-told c =
    let m = lent_to c.args.teller.now in
    let x = tale c.args.teller.now in
    let o = c.args.o in
    let n = c.asked-n.result in
    let at = span false (pointer_of o.block) n.pointer in
    let read = span false o.pb n.read in
    let saved = span false o.pb n.saved in
    let busy = span false (busy_in o.block) n.busy in
    let l₁ = c.span.ensures.lent in
    let l₂ = c.span-2.ensures.lent ∙ l₁ in
    let l₃ = c.span-3.ensures.lent ∙ l₂ in
    let s₁ : tale c.span.new.self ≡ told_on m (all_as false at) x = simp (c.system.ensures, c.sum20.ensures) at c.span.ensures.told in
    let s₂ : tale c.span-2.new.self ≡ told_on m (all_as false read) (told_on m (all_as false at) x) = told-from m _ _ c.span.new.self c.span-2.new.self l₁ s₁ (simp c.system-pb.ensures at c.span-2.ensures.told) in
    let s₃ : tale c.span-3.new.self ≡ told_on m (all_as true saved) (told_on m (all_as false (at ++ read)) x)
    = told-from m _ _ c.span-2.new.self c.span-3.new.self l₂ (s₂ ∙ two-told m false at read x) (simp c.system-pb.ensures at c.span-3.ensures.told) in
    let lists = c.asked-n.ensures o.block o.pb in
    told-from m _ _ c.span-3.new.self c.span-4.new.self l₃ s₃ (simp (c.system-2.ensures, c.busy.ensures) at c.span-4.ensures.told)
    ∙ two-told m true saved busy (told_on m (all_as false (at ++ read)) x)
    ∙ ap (λ (rs : List Place). told_on m (all_as true (saved ++ busy)) (told_on m (all_as false rs) x)) lists.0
    ∙ ap (λ (ss : List Place). told_on m (all_as true ss) (told_on m (all_as false (read_by o.command o.block o.pb)) x)) lists.1
