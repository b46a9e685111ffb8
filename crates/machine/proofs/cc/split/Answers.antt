-- `machine::cc::split` meets its contract.
-- Assumes nothing.
use Prim.Native.Nat.{ℕ, ◌<◌, ◌^◌}
use native.Mathlib.Omega.{arith}
use lib.Dec.{lit<}
use Rattle.ground_rules.proofs.BitLaws.{field_lt}
use Rattle.ground_rules.specs.Bits.{field_of}
use Rattle.ground_rules.specs.Cc.{split}
use Rattle.machine.proofs.cc.split.Goals as goal

-- a field of at most three bits is a byte
narrow : (x at width : ℕ) → 2 ^ width < 256 → field_of x at width < 256
narrow x at width h = omega (arith, field_lt x at width, h)

pub overflow_cast-result : goal.overflow_cast-result
overflow_cast-result c = omega (arith, c.field.ensures, narrow c.args.cc 11 2 (lit< tt))

pub overflow_cast-result-2 : goal.overflow_cast-result-2
overflow_cast-result-2 c = omega (arith, c.field-2.ensures, narrow c.args.cc 5 2 (lit< tt))

pub overflow_cast-result-3 : goal.overflow_cast-result-3
overflow_cast-result-3 c = omega (arith, c.field-3.ensures, narrow c.args.cc 3 2 (lit< tt))

pub overflow_cast-result-4 : goal.overflow_cast-result-4
overflow_cast-result-4 c = omega (arith, c.field-4.ensures, narrow c.args.cc 0 3 (lit< tt))

pub returns : goal.returns
unfolding split
returns c = simp (c.field-4.ensures, c.field-3.ensures, c.field-2.ensures, c.bit-6.ensures, c.bit-5.ensures, c.bit-4.ensures, c.field.ensures, c.bit-3.ensures, c.bit-2.ensures, c.bit.ensures)
