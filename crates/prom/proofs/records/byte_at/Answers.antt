-- `prom::records::byte_at` meets its contract.
-- Assumes nothing.
use Prim.Native.Nat.{◌+◌}
use lib.ListN.{get_or}
use mathlib.Core.Path.{◌≡◌, ◌∙◌}
use native.Mathlib.Omega.{arith}
use Rattle.prom.proofs.DigitLaws.{digit-value, digit-none, byte-past, byte-high, byte-half, byte-low, byte-some}
use Rattle.prom.proofs.records.byte_at.Goals as goal

pub returns-in_err-get : goal.returns-in_err-get
returns-in_err-get c = c.from_residual.ensures ∙ byte-past c.args.text.now c.args.at (grind (arith, c.in_err-get.ensures.lookup))

pub returns-in_err-high : goal.returns-in_err-high
returns-in_err-high c = let b : c.in_ok-get.field-0.now ≡ get_or c.args.text.now c.args.at 0 = grind (arith, c.in_ok-get.ensures.lookup) in
    let n = rw b at (digit-none c.in_ok-get.field-0.now c.in_err-high.ensures) in
    c.from_residual-in_err-high.ensures ∙ byte-high c.args.text.now c.args.at n

pub returns-in_err-get-2 : goal.returns-in_err-get-2
returns-in_err-get-2 c = let b : c.in_ok-get.field-0.now ≡ get_or c.args.text.now c.args.at 0 = grind (arith, c.in_ok-get.ensures.lookup) in
    let high = rw b at (digit-value c.in_ok-get.field-0.now c.in_ok-high.high c.in_ok-high.ensures).0 in
    c.from_residual-in_err-get-2.ensures ∙ byte-half c.args.text.now c.args.at high (grind (arith, c.in_err-get-2.ensures.lookup))

pub returns-in_err-low : goal.returns-in_err-low
returns-in_err-low c = let b : c.in_ok-get.field-0.now ≡ get_or c.args.text.now c.args.at 0 = grind (arith, c.in_ok-get.ensures.lookup) in
    let d : c.in_ok-get-2.field-0.now ≡ get_or c.args.text.now (c.args.at + 1) 0 = grind (arith, c.in_ok-get-2.ensures.lookup) in
    let high = rw b at (digit-value c.in_ok-get.field-0.now c.in_ok-high.high c.in_ok-high.ensures).0 in
    let low = rw d at (digit-none c.in_ok-get-2.field-0.now c.in_err-low.ensures) in
    c.from_residual-in_err-low.ensures ∙ byte-low c.args.text.now c.args.at high low

pub overflow_mul-result : goal.overflow_mul-result
overflow_mul-result c = omega (arith, (digit-value c.in_ok-get.field-0.now c.in_ok-high.high c.in_ok-high.ensures).2)

pub overflow_add-result : goal.overflow_add-result
overflow_add-result c = omega (arith, (digit-value c.in_ok-get.field-0.now c.in_ok-high.high c.in_ok-high.ensures).2, (digit-value c.in_ok-get-2.field-0.now c.in_ok-low.low c.in_ok-low.ensures).2)

pub returns : goal.returns
returns c = let b : c.in_ok-get.field-0.now ≡ get_or c.args.text.now c.args.at 0 = grind (arith, c.in_ok-get.ensures.lookup) in
    let d : c.in_ok-get-2.field-0.now ≡ get_or c.args.text.now (c.args.at + 1) 0 = grind (arith, c.in_ok-get-2.ensures.lookup) in
    let h = digit-value c.in_ok-get.field-0.now c.in_ok-high.high c.in_ok-high.ensures in
    let k = digit-value c.in_ok-get-2.field-0.now c.in_ok-low.low c.in_ok-low.ensures in
    let high = rw b at h.0 in
    let low = rw d at k.0 in
    rw (h.1, k.1, b, d) (byte-some c.args.text.now c.args.at high low)
