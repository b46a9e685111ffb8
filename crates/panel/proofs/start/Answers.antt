-- `panel::start` meets its contract.
-- Assumes nothing.
use mathlib.Core.Bool.{Bool}
use mathlib.Core.Path.{◌≡◌, sym, ap, ◌∙◌}
use native.Mathlib.Omega.{arith}
use Rattle.ground_rules.proofs.ByteLaws.{all-bytes}
use Rattle.ground_rules.proofs.RefusalLaws.{number-positive}
use Rattle.ground_rules.specs.Buffers.{buffers}
use Rattle.ground_rules.specs.Choice.{pick}
use Rattle.ground_rules.specs.States.{idle_channel, busy_in, is_second}
use Rattle.ground_rules.specs.Sums.{sum20}
use Rattle.panel.proofs.StartLaws.{start-refused, start-accepted}
use Rattle.panel.proofs.start.Goals as goal

pub returns-in-Err : goal.returns-in-Err
returns-in-Err c = λ set on.
    let a = c.args in
    let m = buffers a.sys.now a.io.now in
    let told = rw (c.block-block.ensures, c.is_second-second.ensures, c.idle.ensures) at c.in-Err.ensures.number in
    rw c.refused.ensures (start-refused m a.cp a.channel a.lines a.limit set c.requires.0 c.requires.1 on _ told (number-positive _))

pub returns : goal.returns
returns c = λ set on.
    let a = c.args in
    let m = buffers a.sys.now a.io.now in
    let none = rw (c.block-block.ensures, c.is_second-second.ensures, c.idle.ensures) at c.in-Ok.ensures.number in
    let is = rw (c.block-block.ensures, c.is_second-second.ensures, c.idle.ensures) at c.in-Ok.ensures.upshot in
    let busy = c.busy.ensures ∙ ap busy_in (c.block-block.ensures ∙ ap (λ (b : Bool). pick b (sum20 a.cp 8) a.cp) c.is_second-second.ensures) in
    c.rounds.ensures
    ∙ rw (busy, c.is_second-second.ensures, c.write.ensures)
    (start-accepted m a.cp a.channel a.lines a.limit set c.requires.0 c.requires.1 on c.in-Ok.upshot none is
    (all-bytes _ _ (λ i. omega (arith, c.slice_known-1.given i)) (λ i. omega (arith, c.slice_known-2-1.given i))))
