-- `words::extend_byte` meets its contract, by the law of an extended number at 8 bits.
-- Assumes nothing.
use Rattle.std.proofs.Common.{◌+◌, ◌%◌, refl, arith}
use Rattle.ground_rules.proofs.SignLaws.{halves-extended}
use Rattle.words.proofs.extend_byte.Goals as goal

pub returns : goal.returns
returns c =
    let x = c.args.x in
    rw c.wrapping_add_u32.ensures.value (halves-extended 8 x ((x + 128) % 256) (omega arith) refl (omega arith) (λ low. omega (arith, low)) (λ high. omega (arith, high)))
