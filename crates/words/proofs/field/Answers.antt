-- `words::field` meets its contract, by the laws of a field over position and width.
-- Assumes nothing.
use Rattle.std.proofs.Common.{ℕ, ◌-◌, ◌/◌, ◌^◌, sym, ap, ◌∙◌, arith}
use lib.Bits.{bit_and}
use Rattle.ground_rules.proofs.BitLaws.{one_shifted, field_past, field-wide, field-masked}
use Rattle.words.proofs.field.Goals as goal

pub returns-then-at-ge32 : goal.returns-then-at-ge32
returns-then-at-ge32 c = let a = c.args in sym (field_past 32 a.x a.at a.width (omega arith) c.if-at-ge32.true)

pub returns-then-width-ge32 : goal.returns-then-width-ge32
returns-then-width-ge32 c = let a = c.args in sym (field-wide 32 a.x a.at a.width (omega arith) c.if-width-ge32.true)

pub returns : goal.returns
returns c =
    let a = c.args in
    ap (λ (n : ℕ). bit_and (a.x / 2 ^ a.at) (n - 1)) (one_shifted 32 a.width c.if-width-ge32.false) ∙ field-masked a.x a.at a.width
