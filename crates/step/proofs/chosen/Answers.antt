-- `step::chosen` meets its contract.
-- Assumes nothing.
use Rattle.std.proofs.Common.{refl, sym, ap, ◌∙◌, ◌≡◌, ℕ}
use Rattle.ground_rules.specs.Outcomes.{counted}
use Rattle.ground_rules.specs.Buffers.{buffers}
use Rattle.ground_rules.specs.Refusals.{answered}
use Rattle.turn_rules.specs.declared.Choice.{Choice}
use Rattle.turn_rules.specs.Step.{stepped_by, external_step, chosen_step}
use Rattle.turn_rules.specs.Touched.{touched_in}
use Rattle.step.proofs.chosen.Goals as goal

pub returns-in-Nobody : goal.returns-in-Nobody
unfolding chosen_step touched_in counted
returns-in-Nobody c =
    let a = c.args in
    let m = buffers a.sys.now a.io.now in
    let told = sym c.in-Nobody.is in
    record { left = ap (λ (x : Choice). chosen_step x a.s m) told; count = ap (λ (x : Choice). counted 1 (touched_in x a.s m)) told }

pub returns-in-Ends : goal.returns-in-Ends
unfolding chosen_step external_step touched_in counted
returns-in-Ends c =
    let a = c.args in
    let m = buffers a.sys.now a.io.now in
    let told = sym c.in-Ends.is in
    rw c.external_step.ensures (record { left = ap (λ (x : Choice). chosen_step x a.s m) told; count = ap (λ (x : Choice). counted 0 (touched_in x a.s m)) told })

pub returns-in-Steps : goal.returns-in-Steps
unfolding chosen_step
returns-in-Steps c =
    let a = c.args in
    let m = buffers a.sys.now a.io.now in
    let r = c.channel_step in
    let told = sym c.in-Steps.is in
    record { left = r.ensures.left ∙ ap (λ (x : Choice). chosen_step x a.s m) told; count = r.ensures.count ∙ ap (λ (x : Choice). counted (answered r.result) (touched_in x a.s m)) told }
