-- `turns::request` meets its contract.
-- Assumes nothing.
use Rattle.std.proofs.Common.{Bool, true, false, ◌≡◌, ℕ, refl, ap, ◌∙◌}
use package.mir.Val.{bool_byte}
use Rattle.ground_rules.specs.Bits.{bit_of}
use Rattle.ground_rules.specs.Choice.{pick}
use Rattle.turn_rules.specs.Choosing.{requested}
use Rattle.step.proofs.turns.request.Goals as goal

-- a truth value as a number
as_number : (b : Bool) → bool_byte b ≡ pick b 1 0
as_number true = refl
as_number false = refl

pub returns : goal.returns
unfolding requested
returns c = c.bit.ensures ∙ ap (bit_of c.args.lines) (as_number c.args.second)
