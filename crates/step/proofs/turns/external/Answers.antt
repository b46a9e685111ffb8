-- `turns::external` meets its contract.
-- Assumes nothing.
use Rattle.std.proofs.Common.{Bool, true, false, ◌≡◌, ◌+◌, ℕ, refl, ap, ◌∙◌}
use package.mir.Val.{bool_byte}
use Rattle.ground_rules.specs.Bits.{bit_of}
use Rattle.ground_rules.specs.Choice.{pick}
use Rattle.turn_rules.specs.Choosing.{external}
use Rattle.step.proofs.turns.external.Goals as goal

-- two more than a truth value as a number
two_more : (b : Bool) → 2 + bool_byte b ≡ pick b 3 2
two_more true = refl
two_more false = refl

pub returns : goal.returns
unfolding external
returns c = c.bit.ensures ∙ ap (bit_of c.args.lines) (two_more c.args.second)
