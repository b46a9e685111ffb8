-- `ground_rules::Mode::is_suspended` meets its contract.
-- Assumes nothing.
use denote.Enum.Bare.{sameb}
use mathlib.Core.Path.{◌≡◌, refl, ◌∙◌}
use Rattle.ground_rules.specs.contracts.Mode.{the_type}
use Rattle.ground_rules.specs.States.{is_suspended}
use Rattle.ground_rules.specs.declared.Mode.{Mode}
use Rattle.ground_rules.specs.declared.Mode.TheVariants.{Idle, Running, Suspended}
use Rattle.ground_rules.proofs.Mode.is_suspended.Goals as goal

-- equality with that mode, mode by mode
same : (mode : Mode) → sameb the_type mode Suspended ≡ is_suspended mode
unfolding is_suspended
same Idle = refl
same Running = refl
same Suspended = refl

pub returns : goal.returns
returns c = c.eq.ensures ∙ same c.args.self
