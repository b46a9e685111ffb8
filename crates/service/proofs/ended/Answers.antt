-- `service::ended` meets its contract.
-- Assumes nothing.
use mathlib.Core.Path.{ap, ◌∙◌}
use Rattle.transfer_rules.specs.Ends.{externally_ended}
use Rattle.state_rules.proofs.CallLaws.{state-length}
use Rattle.service.proofs.TurnLaws.{ended-left}
use Rattle.service.proofs.ended.Goals as goal

pub channel-requires : goal.channel-requires
channel-requires c = state-length _ c.requires

pub put_step-requires : goal.put_step-requires
put_step-requires c = c.requires

pub returns : goal.returns
returns c =
    let both =
    let a = c.args in
    ended-left a.state.now a.second _ (c.external_end-c.ensures ∙ ap externally_ended c.channel.ensures) _ _ (c.answer.ensures ∙ rw c.number.ensures) c.put_step.ensures.put c.put_step.ensures.whole in
    record { left = both.0; whole = both.1 }
