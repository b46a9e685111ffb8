-- `words::clear_bit` meets its contract, by the law of an and with all bits but one.
-- Assumes nothing.
use Rattle.std.proofs.Common.{ℕ, ◌-◌, ap, ◌∙◌, arith, lt-ltb}
use lib.Bits.{bit_and}
use Rattle.ground_rules.proofs.BitLaws.{one_shifted, clear-masked}
use Rattle.words.proofs.clear_bit.Goals as goal

pub returns-then-at-lt32 : goal.returns-then-at-lt32
returns-then-at-lt32 c =
    let a = c.args in
    simp (lt-ltb _ _ c.if-at-lt32.true)
    (ap (λ (n : ℕ). bit_and a.x (4294967295 - n)) (one_shifted 32 a.at c.if-at-lt32.true) ∙ clear-masked 32 a.x a.at (omega arith) c.if-at-lt32.true)
