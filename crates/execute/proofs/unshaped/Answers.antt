-- `execute::unshaped` meets its contract.
-- Assumes nothing.
use Rattle.std.proofs.Common.{sym, ◌∙◌}
use Rattle.ground_rules.specs.Outcomes.{first, unless}
use Rattle.execute.proofs.unshaped.Goals as goal

pub returns-then-touchable : goal.returns-then-touchable
unfolding first unless
returns-then-touchable c = simp (c.refusal.ensures, sym c.touchable.ensures ∙ c.if-touchable.true)

pub returns-else-touchable : goal.returns-else-touchable
unfolding first unless
returns-else-touchable c = simp (sym c.touchable.ensures ∙ c.if-touchable.false)
