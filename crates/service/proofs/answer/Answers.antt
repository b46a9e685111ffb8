-- `service::answer` meets its contract.
-- Assumes nothing.
use mathlib.Core.Path.{refl}
use Rattle.state_rules.specs.Calls.{answer_from}
use Rattle.service.proofs.answer.Goals as goal

pub returns : goal.returns
unfolding answer_from
returns c = refl
