-- `schedule_calls::admitted` meets its contract.
-- Assumes nothing.
use Rattle.std.proofs.Common.{sym, ◌∙◌}
use Rattle.schedule_calls.proofs.RunLaws.{known-listed}
use Rattle.schedule_calls.proofs.admitted.Goals as goal

pub returns-then-not-all_known : goal.returns-then-not-all_known
returns-then-not-all_known c =
    rw (sym c.is_state.ensures ∙ c.if-not-is_state.false, sym (known-listed c.args.rows.now) ∙ sym c.all_known.ensures ∙ c.if-not-all_known.true)

pub returns : goal.returns
returns c =
    rw (sym c.is_state.ensures ∙ c.if-not-is_state.false, sym (known-listed c.args.rows.now) ∙ sym c.all_known.ensures ∙ c.if-not-all_known.false)
