-- `service::stepped` meets its contract.
-- Assumes nothing.
use borrow.Author.Rules.{rules}
use mathlib.Core.Path.{◌∙◌}
use Rattle.service.proofs.TurnLaws.{refused-left, done-left}
use Rattle.service.proofs.stepped.Goals as goal

pub put_turn-requires : goal.put_turn-requires
put_turn-requires c = (c.requires.0, c.requires.1, rw c.in-Ok.is at c.requires.2)

pub returns-in-Ok : goal.returns-in-Ok
returns-in-Ok c =
    let both = done-left c.args.state.now c.args.second c.in-Ok.turn _ _ (c.answer.ensures ∙ rw (c.kind_number.ensures, c.number.ensures)) c.put_turn.ensures.put c.put_turn.ensures.whole in
    record { left = λ m. rw c.in-Ok.is (both.0 m); whole = λ m. rw c.in-Ok.is (both.1 m) }

pub returns-in-Err : goal.returns-in-Err
returns-in-Err c =
    let both = refused-left c.args.state.now (λ i. search rules) c.requires.0 c.args.second c.in-Err.refusal _ c.refused.ensures in
    record { left = λ m. rw c.in-Err.is (both.0 m); whole = λ m. rw c.in-Err.is (both.1 m) }
