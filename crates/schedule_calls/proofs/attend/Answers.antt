-- `schedule_calls::attend` meets its contract.
-- Assumes nothing.
use Rattle.std.proofs.Common.{rules}
use Rattle.schedule_calls.proofs.TurnLaws.{attention-row}
use Rattle.schedule_calls.proofs.attend.Goals as goal

pub returns : goal.returns
returns c =
    attention-row _ _ _ _ _ _ _ _ c.requires.is (λ i. search rules) (λ i. search rules)
    c.iop89_attention-answer.ensures.left (c.iop89_attention-answer.ensures.whole c.requires.is) c.attention.ensures
