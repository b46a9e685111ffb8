-- `words::displacement_byte` meets its contract, by the laws of a signed number at 8 bits.
-- Assumes nothing.
use Rattle.std.proofs.Common.{◌+◌, ◌%◌, refl, arith}
use Rattle.ground_rules.proofs.SignLaws.{halves-less}
use Rattle.words.proofs.displacement_byte.Goals as goal

pub returns : goal.returns
returns c = halves-less 8 c.args.x ((c.args.x + 128) % 256) 127 refl refl (omega arith) (omega arith) (omega arith) (λ low. omega (arith, low)) (λ high. omega (arith, high))
