-- `words::set_bit` meets its contract, by the law of an or with one bit.
-- Assumes nothing.
use Rattle.std.proofs.Common.{ap, ◌∙◌, lt-ltb}
use lib.Bits.{bit_or}
use Rattle.ground_rules.proofs.BitLaws.{one_shifted, set-masked}
use Rattle.words.proofs.set_bit.Goals as goal

pub returns-then-at-lt32 : goal.returns-then-at-lt32
returns-then-at-lt32 c =
    let a = c.args in
    simp (lt-ltb _ _ c.if-at-lt32.true) (ap (bit_or a.x) (one_shifted 32 a.at c.if-at-lt32.true) ∙ set-masked a.x a.at)
