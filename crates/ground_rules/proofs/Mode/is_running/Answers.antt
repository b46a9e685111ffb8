-- `ground_rules::Mode::is_running` meets its contract.
-- Assumes nothing.
use denote.Enum.Bare.{sameb}
use mathlib.Core.Path.{◌≡◌, refl, ◌∙◌}
use Rattle.ground_rules.specs.contracts.Mode.{the_type}
use Rattle.ground_rules.specs.States.{is_running}
use Rattle.ground_rules.specs.declared.Mode.{Mode}
use Rattle.ground_rules.specs.declared.Mode.TheVariants.{Idle, Running, Suspended}
use Rattle.ground_rules.proofs.Mode.is_running.Goals as goal

-- equality with that mode, mode by mode
same : (mode : Mode) → sameb the_type mode Running ≡ is_running mode
unfolding is_running
same Idle = refl
same Running = refl
same Suspended = refl

pub returns : goal.returns
returns c = c.eq.ensures ∙ same c.args.self
