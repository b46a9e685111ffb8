-- `words::extend_word` meets its contract, by the law of an extended number at 16 bits.
-- Assumes nothing.
use Rattle.std.proofs.Common.{◌+◌, ◌%◌, refl, arith}
use Rattle.ground_rules.proofs.SignLaws.{halves-extended}
use Rattle.words.proofs.extend_word.Goals as goal

pub returns : goal.returns
returns c =
    let x = c.args.x in
    rw c.wrapping_add_u32.ensures.value (halves-extended 16 x ((x + 32768) % 65536) (omega arith) refl (omega arith) (λ low. omega (arith, low)) (λ high. omega (arith, high)))
