-- `schedule_calls::step` meets its contract.
-- Assumes nothing.
use Rattle.std.proofs.Common.{rules}
use Rattle.ground_rules.proofs.ByteLaws.{all-bytes}
use Rattle.state_rules.proofs.CallLaws.{state-length}
use Rattle.schedule_calls.proofs.TurnLaws.{step-reads, step-row}
use Rattle.schedule_calls.proofs.step.Goals as goal

pub channel-requires : goal.channel-requires
channel-requires c = state-length _ c.requires.is

pub channel-requires-2 : goal.channel-requires-2
channel-requires-2 c = state-length _ c.requires.is

pub step-requires : goal.step-requires
step-requires c =
    let one = rw c.channel.ensures at c.find-first.ensures.waits in
    let two = rw c.channel-2.ensures at c.find-second.ensures.waits in
    step-reads _ _ _ _ _ _ _ _ c.requires.is c.iop89_step-answer.ensures.left
    (one, rw c.channel.ensures at c.find-first.ensures.reads) (two, rw c.channel-2.ensures at c.find-second.ensures.reads)

pub returns : goal.returns
returns c =
    let one = rw c.channel.ensures at c.find-first.ensures.waits in
    let two = rw c.channel-2.ensures at c.find-second.ensures.waits in
    step-row _ _ _ _ _ _ _ _ _ _ c.requires.is (λ i. search rules)
    (all-bytes _ _ (λ i. search rules) (λ i. search rules)) (λ i. search rules)
    c.iop89_step-answer.ensures.left (c.iop89_step-answer.ensures.whole c.requires.is)
    (one, rw c.channel.ensures at c.find-first.ensures.reads) (two, rw c.channel-2.ensures at c.find-second.ensures.reads) c.step.ensures
