-- `schedule_calls::counting::clear` meets its contract.
-- Assumes nothing.
use mathlib.Core.{List.List, Path.refl, Path.ap, Path.◌∙◌}
use Rattle.std.proofs.Common.{ℕ, set}
use Rattle.schedule_rules.specs.Reports.{put_over}
use Rattle.schedule_calls.proofs.WordLaws.{clear_next}
use Rattle.schedule_calls.proofs.counting.clear.Goals as goal

pub loop-at-init : goal.loop-at-init
unfolding put_over
loop-at-init c = refl

pub loop-at-preserved : goal.loop-at-preserved
loop-at-preserved c =
    let l = c.loop-at in
    c.clear_word.ensures ∙ ap (λ (xs : List ℕ). set xs l.at 0) l.invariant ∙ clear_next l.at _
