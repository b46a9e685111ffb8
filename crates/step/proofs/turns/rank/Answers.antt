-- `step::turns/rank` meets its contract.
-- Assumes nothing.
use borrow.Author.Tests.{not-true, not-false}
use mathlib.Core.Path.{sym, ◌∙◌}
use Rattle.turn_rules.specs.Choosing.{rank_of}
use Rattle.step.proofs.turns.rank.Goals as goal

pub returns-then-not-is_running : goal.returns-then-not-is_running
unfolding rank_of
returns-then-not-is_running c = simp (sym c.is_running.ensures ∙ not-true _ c.if-not-is_running.true-raw)

pub returns-then-transferring : goal.returns-then-transferring
unfolding rank_of
returns-then-transferring c = simp (c.transfer_rank.ensures, sym c.transferring.ensures ∙ c.if-transferring.true, sym c.is_running.ensures ∙ not-false _ c.if-not-is_running.false-raw)

pub returns-then-f : goal.returns-then-f
unfolding rank_of
returns-then-f c = simp (c.if-f.true, sym c.transferring.ensures ∙ c.if-transferring.false, sym c.is_running.ensures ∙ not-false _ c.if-not-is_running.false-raw)

pub returns-else-f : goal.returns-else-f
unfolding rank_of
returns-else-f c = simp (c.if-f.false, sym c.transferring.ensures ∙ c.if-transferring.false, sym c.is_running.ensures ∙ not-false _ c.if-not-is_running.false-raw)
