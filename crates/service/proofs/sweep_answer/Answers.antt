-- `service::sweep_answer` meets its contract.
-- Assumes nothing.
use mathlib.Core.Path.{refl}
use Rattle.state_rules.specs.Calls.{sweep_answer_from}
use Rattle.service.proofs.sweep_answer.Goals as goal

pub returns : goal.returns
unfolding sweep_answer_from
returns c = refl
