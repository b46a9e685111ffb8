-- `words::displacement_word` meets its contract, by the laws of a signed number at 16 bits.
-- Assumes nothing.
use Rattle.std.proofs.Common.{◌+◌, ◌%◌, refl, arith}
use Rattle.ground_rules.proofs.SignLaws.{halves-less}
use Rattle.words.proofs.displacement_word.Goals as goal

pub returns : goal.returns
returns c = halves-less 16 c.args.x ((c.args.x + 32768) % 65536) 32767 refl refl (omega arith) (omega arith) (omega arith) (λ low. omega (arith, low)) (λ high. omega (arith, high))
