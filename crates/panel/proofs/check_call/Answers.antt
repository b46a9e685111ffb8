-- `panel::check_call` meets its contract.
-- Assumes nothing.
use Rattle.std.proofs.Common.{Bool, not, ◌&&◌, sym, ap, ◌∙◌, ◌≡◌, ℕ}
use lib.Dec.{ltb}
use borrow.Author.Tests.{not-true, not-false}
use Rattle.ground_rules.specs.Outcomes.{unless, first}
use Rattle.run_rules.specs.Run.{call_number}
use Rattle.panel.proofs.check_call.Goals as goal

pub returns-then-not-is_channel-lines : goal.returns-then-not-is_channel-lines
unfolding call_number first unless
returns-then-not-is_channel-lines c = rw (rw c.is_channel.ensures at (not-true _ c.if-not-is_channel-lines.true-raw))

pub returns-then-within_limits : goal.returns-then-within_limits
unfolding call_number first unless
returns-then-within_limits c = rw (rw c.is_channel.ensures at (not-false _ c.if-not-is_channel-lines.false-raw), sym c.within_limits.ensures ∙ c.if-within_limits.true)

pub returns-else-within_limits : goal.returns-else-within_limits
unfolding call_number first unless
returns-else-within_limits c = rw (rw c.is_channel.ensures at (not-false _ c.if-not-is_channel-lines.false-raw), sym c.within_limits.ensures ∙ c.if-within_limits.false)
