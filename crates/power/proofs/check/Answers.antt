-- `power::check` meets its contract.
-- Assumes nothing.
use borrow.Author.Tests.{not-true, not-false}
use mathlib.Core.Path.{sym, ◌∙◌}
use Rattle.ground_rules.specs.Outcomes.{unless, first}
use Rattle.attention_rules.proofs.PowerNumbers.{power-chain}
use Rattle.power.proofs.check.Goals as goal

pub returns-then-not-within_limits : goal.returns-then-not-within_limits
unfolding first unless
returns-then-not-within_limits c = sym (power-chain _ ∙ simp (not-true c.within_limits.result c.if-not-within_limits.true-raw, ← c.within_limits.ensures))

pub returns-then-not-board_lent : goal.returns-then-not-board_lent
unfolding first unless
returns-then-not-board_lent c = sym (power-chain _ ∙ simp (not-true c.board_lent.result c.if-not-board_lent.true-raw, ← c.board_lent.ensures, not-false c.within_limits.result c.if-not-within_limits.false-raw, ← c.within_limits.ensures))

pub returns : goal.returns
unfolding first unless
returns c = sym (power-chain _ ∙ simp (not-false c.board_lent.result c.if-not-board_lent.false-raw, ← c.board_lent.ensures, not-false c.within_limits.result c.if-not-within_limits.false-raw, ← c.within_limits.ensures))
