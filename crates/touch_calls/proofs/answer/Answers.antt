-- `touch_calls::answer` meets its contract.
-- Assumes nothing.
use Rattle.state_rules.specs.Calls.{answer_from}
use mathlib.Core.Path.{refl}
use Rattle.touch_calls.proofs.answer.Goals as goal

pub returns : goal.returns
unfolding answer_from
returns c = refl
